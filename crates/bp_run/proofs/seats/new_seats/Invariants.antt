use Rattle.bp_run.proofs.Common.{◌≡◌, ◌+◌, vec_len, map, range_with_len, new_seat}
use Rattle.bp_run.proofs.seats.new_seats.Given as goal

abbrev pub invariant-loop-thread : goal.invariant-loop-thread
invariant-loop-thread g l = record {
  made_parts : l.made.parts + l.thread ≡ l.threads;
  made : l.made.amount ≡ 0;
  live_parts : l.live.parts + l.thread ≡ l.threads;
  live : l.live.amount ≡ l.live.parts;
  count : vec_len l.seats ≡ l.thread;
  seats : l.seats.items ≡ map new_seat (range_with_len 0 l.thread);
}
