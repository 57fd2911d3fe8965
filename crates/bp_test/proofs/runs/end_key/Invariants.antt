use Rattle.bp_test.proofs.Common.{List, Call, configuration_after, Stands, IsEndKey}
use Rattle.bp_test.proofs.runs.end_key.Given as goal

abbrev pub invariant-loop-thread : goal.invariant-loop-thread
invariant-loop-thread l =
    let t = l.fn.session.code.tree in
    (h : List Call) → Stands t l.fn.session h
    → IsEndKey t (configuration_after t l.fn.session.setup h) l.fn.steps l.thread l.key
