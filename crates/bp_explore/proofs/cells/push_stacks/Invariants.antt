use Rattle.bp_explore.proofs.Common.{take, IsPacked, take_times, take_stack, frames_of}
use Rattle.bp_explore.proofs.cells.push_stacks.Given as goal

abbrev pub invariant-loop-stack : goal.invariant-loop-stack
invariant-loop-stack l =
    IsPacked (take_times take_stack l.stack-index) l.fn.cells.items l.cells.items (frames_of (take l.stack-index l.stacks))
