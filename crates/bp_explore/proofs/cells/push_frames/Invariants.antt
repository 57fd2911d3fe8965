use Rattle.bp_explore.proofs.Common.{take, IsPacked, take_times, take_frame}
use Rattle.bp_explore.proofs.cells.push_frames.Given as goal

abbrev pub invariant-loop-frame : goal.invariant-loop-frame
invariant-loop-frame l =
    IsPacked (take_times take_frame l.frame-index) l.fn.cells.items l.cells.items (take l.frame-index l.frames)
