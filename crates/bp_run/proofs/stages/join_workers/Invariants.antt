use Rattle.bp_run.proofs.Common.{◌≡◌, ◌≤◌, ◌+◌, ◌++◌, map, vec_len, vec_capacity, into_iter_items, into_iter_len}
use Rattle.bp_run.proofs.stages.join_workers.Given as goal

abbrev pub invariant-loop-handle : goal.invariant-loop-handle
invariant-loop-handle g l = record {
  can : (goal.iterator-loop-handle g).can_next l.handle-iterator;
  ends : (goal.iterator-loop-handle g).is_finite l.handle-iterator;
  room : vec_len l.back + into_iter_len l.handle-iterator ≤ vec_capacity l.back;
  threads : map (λ s. s.thread) l.back.items ++ map (λ h. h.promise.thread) (into_iter_items l.handle-iterator)
      ≡ map (λ h. h.promise.thread) l.fn.handles.items;
}
