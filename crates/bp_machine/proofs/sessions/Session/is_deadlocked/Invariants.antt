use Rattle.bp_machine.proofs.Common.{List, Call, configuration_after, Stands}
use Rattle.bp_machine.proofs.Deadlocks.{AreSeen}
use Rattle.bp_machine.proofs.sessions.Session.is_deadlocked.Given as goal

abbrev pub invariant-loop-thread : goal.invariant-loop-thread
invariant-loop-thread l =
    (h : List Call)
    → Stands l.self.code.tree l.self h
    → AreSeen l.self.code.tree (configuration_after l.self.code.tree l.self.setup h) l.thread l.is_any_left
