use Rattle.bp_machine.proofs.Common.{rules, slice_get_read}
use Rattle.bp_machine.proofs.SessionsInOrder.{below_is}
use Rattle.bp_machine.proofs.stacks.Stack.below.Goals as goal

pub returns-then-returned-count : goal.returns-then-returned-count
returns-then-returned-count c = search (rules, slice_get_read, below_is)
