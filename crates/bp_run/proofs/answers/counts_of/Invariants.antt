use Rattle.bp_run.proofs.Common.{◌≡◌, ◌≤◌, ◌+◌, ◌++◌, map, vec_len, vec_capacity, into_iter_items, into_iter_len, seat_of_worker}
use Rattle.bp_run.proofs.answers.counts_of.Given as goal

abbrev pub invariant-loop-seat : goal.invariant-loop-seat
invariant-loop-seat g l = record {
  can : (goal.iterator-loop-seat g).can_next l.seat-iterator;
  ends : (goal.iterator-loop-seat g).is_finite l.seat-iterator;
  room : vec_len l.counts + into_iter_len l.seat-iterator ≤ vec_capacity l.counts;
  counted : map seat_of_worker l.counts.items ++ into_iter_items l.seat-iterator ≡ l.fn.seats.items;
}
