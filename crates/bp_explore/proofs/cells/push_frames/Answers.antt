use Rattle.bp_explore.proofs.Common.{◌+◌, get_or, take, sym, subst, take_more, ActivationRecord, IsPacked, take_times, take_frame}
use Rattle.bp_explore.proofs.PackedNodes.{packed_more}
use Rattle.bp_explore.proofs.cells.push_frames.Goals as goal

pub loop-frame-preserved : goal.loop-frame-preserved
loop-frame-preserved c =
    let xs = c.args.frames.now in
    let i = c.loop-frame.frame-index in
    let none : ActivationRecord = record { number = 0; locals = 0 } in
    subst (λ ys. IsPacked (take_times take_frame (i + 1)) c.args.cells.now.items c.push_frame.new.cells.items ys) (sym (take_more xs i none c.loop-frame-test.true))
    (packed_more take_frame i c.args.cells.now.items c.loop-frame.cells.items c.push_frame.new.cells.items (take i xs) (get_or xs i none)
    c.loop-frame.invariant c.in_ok-push_frame.ensures)
