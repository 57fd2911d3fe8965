use Rattle.bp_view.proofs.Common.{flat_map, take, Grown, frame_in, frame_text}
use Rattle.bp_view.proofs.frames.push_frames.Given as goal

abbrev pub invariant-loop-frame : goal.invariant-loop-frame
invariant-loop-frame l = Grown l.fn.view l.view (flat_map (λ x. frame_text l.format (frame_in x)) (take l.frame-index l.frames))
