use Rattle.bp_test.proofs.Common.{List, Call, Stands, place_of, MarksGrow}
use Rattle.bp_test.proofs.ReachedPlaces.{WaitsBelow}
use Rattle.bp_test.proofs.runs.reach_waits.Given as goal

abbrev pub invariant-loop-thread : goal.invariant-loop-thread
invariant-loop-thread l =
    (h : List Call)
    → Stands l.session.code.tree l.session h
    → MarksGrow (place_of l.session.code.tree) (WaitsBelow l.session.code.tree l.session.setup h l.thread) l.fn.reached.items l.reached.items
