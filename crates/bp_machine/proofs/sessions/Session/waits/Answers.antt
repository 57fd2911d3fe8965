use Rattle.bp_machine.proofs.Common.{rules}
use Rattle.bp_machine.proofs.Deadlocks.{with_either_bit, no_stack}
use Rattle.bp_machine.proofs.sessions.Session.waits.Goals as goal

pub returns-in_default : goal.returns-in_default
returns-in_default c = search (rules, no_stack)

pub returns : goal.returns
returns c = search (rules, with_either_bit)
