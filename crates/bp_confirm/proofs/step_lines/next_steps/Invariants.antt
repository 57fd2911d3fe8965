use Rattle.bp_confirm.proofs.Common.{◌≡◌, ◌≤◌, ◌<◌, ℕ, Some, length, drop, map, slice_get, MAX_THREADS, location_in, next_location, next_locations}
use Rattle.bp_confirm.proofs.step_lines.next_steps.Given as goal

abbrev pub invariant-loop-n : goal.invariant-loop-n
invariant-loop-n l = record {
  within : l.n ≤ length l.lines;
  size : length l.next ≡ MAX_THREADS;
  each : (i : ℕ) → i < MAX_THREADS → slice_get (map (location_in l.lines) l.next) i ≡ Some (next_location i (drop l.n l.lines));
  many : length l.steps.items ≡ length l.lines;
  done : map (location_in l.lines) (drop l.n l.steps.items) ≡ next_locations (drop l.n l.lines);
}

abbrev pub decreases-loop-n : goal.decreases-loop-n
decreases-loop-n l = l.n
