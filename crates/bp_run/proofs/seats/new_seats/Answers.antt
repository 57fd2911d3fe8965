use Rattle.bp_run.proofs.Common.{rules, arith, ◌≡◌, ◌+◌, map, range_with_len, map-range_with_len_more, new_seat}
use Rattle.bp_run.proofs.seats.new_seats.Given.{Over}
use Rattle.bp_run.proofs.seats.new_seats.Goals.{In_ok-push}
use Rattle.bp_run.proofs.seats.new_seats.Goals as goal

seat_pushed : (g : Over) (c : In_ok-push g) → c.push.new.self.items ≡ map new_seat (range_with_len 0 (c.loop-thread.thread + 1))
seat_pushed g c =
    let more = map-range_with_len_more new_seat 0 c.loop-thread.thread c.loop-thread.thread (omega arith) in
    rw more (rw (← c.loop-thread.invariant.seats) (search rules))

pub loop-thread-preserved : goal.loop-thread-preserved
loop-thread-preserved g c = record {
  made_parts = omega (arith, c.loop-thread.invariant.made_parts, c.split_off.ensures.parts_left);
  made = omega (arith, c.loop-thread.invariant.made, c.split_off.ensures.amount_left);
  live_parts = omega (arith, c.loop-thread.invariant.live_parts, c.split_off-in-loop-thread.ensures.parts_left);
  live = omega (arith, c.loop-thread.invariant.live, c.split_off-in-loop-thread.ensures.parts_left, c.split_off-in-loop-thread.ensures.amount_left);
  count = search rules;
  seats = seat_pushed g c;
}
