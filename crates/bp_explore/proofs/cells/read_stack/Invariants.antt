use Rattle.bp_explore.proofs.Common.{◌≡◌, drop, reverse, take_number, take_times, take_frame}
use Rattle.bp_explore.proofs.cells.read_stack.Given as goal

abbrev pub invariant-loop-n : goal.invariant-loop-n
invariant-loop-n l =
    take_times take_frame l._n (take_number (drop l.fn.at l.cells)).1 ≡ (reverse l.stack.frames, drop l.at l.cells)
