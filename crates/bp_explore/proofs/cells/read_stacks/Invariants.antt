use Rattle.bp_explore.proofs.Common.{◌≡◌, drop, take, length, take_times, take_stack, frames_of}
use Rattle.bp_explore.proofs.cells.read_stacks.Given as goal

abbrev pub invariant-loop-i : goal.invariant-loop-i
invariant-loop-i l = record {
  read : take_times take_stack l.i (drop l.fn.at l.cells) ≡ (frames_of (take l.i l.stacks.items), drop l.at l.cells);
  count : length l.stacks.items ≡ length l.fn.stacks.items;
}
