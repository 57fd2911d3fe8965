use Rattle.bp_flat.proofs.Common.{◌∙◌, ap, sym, Some, option_map, bits_of, variables}
use Rattle.bp_flat.proofs.SlotsOfNames.{value_of_slot}
use Rattle.bp_flat.proofs.variables.local_value.Goals as goal

pub returns-in-Some : goal.returns-in-Some
returns-in-Some c =
    ap Some c.bit_of.ensures
    ∙ ap (option_map (bits_of c.args.word)) (sym (sym c.local_slot_of.ensures ∙ c.in-Some.is))
    ∙ value_of_slot (variables c.args.proc.now) (bits_of c.args.word) c.args.name.now

pub returns-in-None : goal.returns-in-None
returns-in-None c =
    ap (option_map (bits_of c.args.word)) (sym (sym c.local_slot_of.ensures ∙ c.in-None.is))
    ∙ value_of_slot (variables c.args.proc.now) (bits_of c.args.word) c.args.name.now
