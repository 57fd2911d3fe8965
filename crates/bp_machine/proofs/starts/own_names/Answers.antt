use Rattle.bp_machine.proofs.Common.{string_bytes, rules}
use Rattle.bp_machine.proofs.SetupInRange.{name_of_found, found_somewhere, name_at, names_more}
use Rattle.bp_machine.proofs.starts.own_names.Goals as goal

pub unreachable-requires : goal.unreachable-requires
unreachable-requires c = search (rules, name_at, found_somewhere)

pub loop-name-preserved : goal.loop-name-preserved
loop-name-preserved c = search (rules, name_of_found, string_bytes, names_more)
