use Rattle.bp_test.proofs.Common.{List, Call, configuration_after, Stands, AreWaiting}
use Rattle.bp_test.proofs.waits.waiting_threads.Given as goal

abbrev pub invariant-loop-thread : goal.invariant-loop-thread
invariant-loop-thread l =
    (h : List Call)
    → Stands l.session.code.tree l.session h
    → AreWaiting l.session.code.tree (configuration_after l.session.code.tree l.session.setup h) l.thread l.waiting.items
