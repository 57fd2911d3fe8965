use Rattle.bp_code.proofs.Common.{rules}
use Rattle.bp_code.proofs.SlotsAreVariables.{first_within}
use Rattle.bp_code.proofs.environments.Environment.slot.Goals as goal

pub overflow_cast-index : goal.overflow_cast-index
overflow_cast-index c = search (rules, first_within)

pub new-requires : goal.new-requires
new-requires c = search (rules, first_within)

pub overflow_cast-index-in-None : goal.overflow_cast-index-in-None
overflow_cast-index-in-None c = search (rules, first_within)

pub new-requires-in-None : goal.new-requires-in-None
new-requires-in-None c = search (rules, first_within)
