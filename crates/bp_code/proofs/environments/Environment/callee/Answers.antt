use Rattle.bp_code.proofs.Common.{rules}
use Rattle.bp_code.proofs.SlotsAreVariables.{name_found, heading_within, entry_of_first}
use Rattle.bp_code.proofs.environments.Environment.callee.Goals as goal

pub unwrap-index-requires : goal.unwrap-index-requires
unwrap-index-requires c = search (rules, name_found)

pub offset_bounds-self-index : goal.offset_bounds-self-index
offset_bounds-self-index c = search (rules, heading_within)

pub bounds-self-index : goal.bounds-self-index
bounds-self-index c = search (rules, heading_within)

pub returns : goal.returns
returns c = search (rules, entry_of_first)
