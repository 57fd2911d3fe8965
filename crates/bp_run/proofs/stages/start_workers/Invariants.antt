use Rattle.bp_run.proofs.Common.{◌≡◌, ◌≤◌, ◌+◌, ◌++◌, true, map, vec_len, vec_capacity, into_iter_items, into_iter_len}
use Rattle.bp_run.proofs.stages.start_workers.Given as goal

abbrev pub invariant-loop-seat : goal.invariant-loop-seat
invariant-loop-seat g l = record {
  can : (goal.iterator-loop-seat g).can_next l.seat-iterator;
  ends : (goal.iterator-loop-seat g).is_finite l.seat-iterator;
  room : vec_len l.handles + into_iter_len l.seat-iterator ≤ vec_capacity l.handles;
  few : vec_len l.handles + into_iter_len l.seat-iterator ≤ vec_len l.fn.seats;
  threads : l.all_started ≡ true
      → map (λ h. h.promise.thread) l.handles.items ++ map (λ s. s.thread) (into_iter_items l.seat-iterator)
      ≡ map (λ s. s.thread) (into_iter_items l.initial.seat-iterator);
}
