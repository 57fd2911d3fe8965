use Rattle.bp_machine.proofs.Common.{sym, ◌∙◌, map, string_bytes, rules, setup_of}
use Rattle.bp_machine.proofs.SetupInRange.{range_of, error_refuses}
use Rattle.bp_machine.proofs.setups.Setup.new.Goals as goal

pub kept-requires : goal.kept-requires
kept-requires c =
    range_of c.args.code.now.tree (setup_of (map string_bytes c.args.entries.now) c.args.init.now c.args.contexts c.args.calls c.args.seed)
    (sym c.error_of_setup.ensures ∙ c.in-None.is) c.is_of_a_program.ensures.well_formed

pub returns-in-Some-clause-answer : goal.returns-in-Some-clause-answer
returns-in-Some-clause-answer c = search (rules, error_refuses, string_bytes)
