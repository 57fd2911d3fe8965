use Rattle.bp_flat.proofs.Common.{◌∙◌, ap, sym, Some, option_map, bits_of}
use Rattle.bp_flat.proofs.SlotsOfNames.{value_of_slot}
use Rattle.bp_flat.proofs.variables.global_value.Goals as goal

pub returns-in-Some : goal.returns-in-Some
returns-in-Some c =
    ap Some c.bit_of.ensures
    ∙ ap (option_map (bits_of c.args.word)) (sym (sym c.slot_of.ensures.slot ∙ c.in-Some.is))
    ∙ value_of_slot c.args.names.now (bits_of c.args.word) c.args.name.now

pub returns-in-None : goal.returns-in-None
returns-in-None c =
    ap (option_map (bits_of c.args.word)) (sym (sym c.slot_of.ensures.slot ∙ c.in-None.is))
    ∙ value_of_slot c.args.names.now (bits_of c.args.word) c.args.name.now
