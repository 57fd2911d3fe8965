use Rattle.bp_run.proofs.Common.{◌≡◌, false, List, ℕ, vec_len, vec_capacity, is_terminated, IsInBooks, Call}
use Rattle.bp_run.proofs.Batches.{AreStepsMade}
use Rattle.bp_run.proofs.desks.make.Given as goal

abbrev pub invariant-loop-made : goal.invariant-loop-made
invariant-loop-made l = record {
  code : l.session.code ≡ l.fn.session.code;
  setup : l.session.setup ≡ l.fn.session.setup;
  count : vec_len l.calls ≡ l._made;
  room : vec_capacity l.calls ≡ vec_capacity l.fn.calls;
  steps : (h : List Call) (made live : ℕ)
      → IsInBooks l.fn.session h made live
      → is_terminated l.fn.session.setup h l.fn.thread ≡ false
      → AreStepsMade l.session h made live l.fn.thread l.calls.items;
}
