use Rattle.bp_machine.proofs.Common.{rules}
use Rattle.bp_machine.proofs.SessionsInOrder.{entered, top_is}
use Rattle.bp_machine.proofs.stacks.enter.Goals as goal

pub returns-then-count-gt1-clause-items : goal.returns-then-count-gt1-clause-items
returns-then-count-gt1-clause-items c = search (rules, top_is, entered)
