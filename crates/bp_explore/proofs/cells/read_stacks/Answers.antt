use Rattle.bp_explore.proofs.Common.{◌≡◌, ◌+◌, ◌++◌, ◌∷◌, [], ◌<◌, length, take, drop, sym, ap, ◌∙◌, arith, slice_set, length-set, take_stack, frames_of}
use Rattle.bp_explore.proofs.PackedNodes.{times_more, frames_set}
use Rattle.bp_explore.proofs.cells.read_stacks.Goals as goal

pub loop-i-preserved : goal.loop-i-preserved
loop-i-preserved c =
    let i = c.loop-i.i in
    let items = c.loop-i.stacks.items in
    let new = c.read_stack.new.stack in
    let start = drop c.args.at.now c.args.cells.now in
    let within : i < length items = omega (arith, c.loop-i-test.true, c.len-i-end.ensures, c.loop-i.invariant.count, c.args.stacks.now.ok.0) in
    let more : frames_of (take (i + 1) (slice_set items i new)) ≡ frames_of (take i items) ++ new.frames ∷ [] = frames_set items i new within in
    record {
      read =
          times_more take_stack i start (frames_of (take i items)) (drop c.loop-i.at c.args.cells.now) new.frames (drop c.read_stack.new.at c.args.cells.now)
          c.loop-i.invariant.read (λ j. (sym c.in_ok-read_stack.ensures.stack j, sym c.in_ok-read_stack.ensures.rest j))
          ∙ ap (λ ys. (ys, drop c.read_stack.new.at c.args.cells.now)) (sym more);
      count = length-set items i new ∙ c.loop-i.invariant.count;
    }
