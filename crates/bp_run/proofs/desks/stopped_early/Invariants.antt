use Rattle.bp_run.proofs.Common.{◌≡◌, ◌<◌, List, ℕ, false, true, is_terminated, Stands, is_at_call}
use Rattle.bp_machine.specs.declared.calls.Call.{Call as Answered}
use Rattle.bp_run.proofs.desks.stopped_early.Given as goal

abbrev pub invariant-loop-thread : goal.invariant-loop-thread
invariant-loop-thread l =
    (h : List Answered)
    → Stands l.fn.session.code.tree l.fn.session h
    → (i : ℕ) → i < l.thread → is_terminated l.fn.session.setup h i ≡ false → is_at_call l.fn.session.code.tree l.fn.session.setup h i ≡ true
