use Rattle.bp_flat.proofs.Common.{rules}
use Rattle.bp_flat.proofs.SlotsOfNames.{index_after, index_append}
use Rattle.bp_flat.proofs.variables.local_slot_of.Goals as goal

pub returns-in-Some : goal.returns-in-Some
returns-in-Some c = search (rules, index_after, index_append)

pub returns-in_err-slot : goal.returns-in_err-slot
returns-in_err-slot c = search (rules, index_append, index_after)

pub returns : goal.returns
returns c = search (rules, index_append, index_after)
