use Rattle.bp_test.proofs.Common.{List, Call, configuration_after, Stands, HaveReturned}
use Rattle.bp_test.proofs.waits.have_returned.Given as goal

abbrev pub invariant-loop-thread : goal.invariant-loop-thread
invariant-loop-thread l =
    (h : List Call)
    → Stands l.session.code.tree l.session h
    → HaveReturned (configuration_after l.session.code.tree l.session.setup h) l.thread
