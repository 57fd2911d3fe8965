use Rattle.bp_machine.proofs.Common.{rules}
use Rattle.bp_machine.proofs.SessionAnswers.{over_is}
use Rattle.bp_machine.proofs.sessions.Session.is_terminated.Goals as goal

pub returns-in-Some : goal.returns-in-Some
returns-in-Some c = search (rules, over_is)
