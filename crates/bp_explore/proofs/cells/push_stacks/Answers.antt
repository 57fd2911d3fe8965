use Rattle.bp_explore.proofs.Common.{◌≡◌, ◌+◌, ◌++◌, ◌∷◌, [], take, sym, subst, IsPacked, take_times, take_stack, frames_of}
use Rattle.bp_explore.proofs.PackedNodes.{packed_more, frames_next}
use Rattle.bp_explore.proofs.cells.push_stacks.Goals as goal

pub loop-stack-preserved : goal.loop-stack-preserved
loop-stack-preserved c =
    let xs = c.args.stacks.now in
    let i = c.loop-stack.stack-index in
    let item = c.stack-item.result in
    let more : frames_of (take (i + 1) xs) ≡ frames_of (take i xs) ++ item.frames ∷ [] = frames_next xs i item c.loop-stack-test.true c.stack-item.is in
    subst (λ ys. IsPacked (take_times take_stack (i + 1)) c.args.cells.now.items c.push_stack.new.cells.items ys) (sym more)
    (packed_more take_stack i c.args.cells.now.items c.loop-stack.cells.items c.push_stack.new.cells.items (frames_of (take i xs)) item.frames
    c.loop-stack.invariant c.in_ok-push_stack.ensures)
