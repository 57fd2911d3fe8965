use Rattle.bp_view.proofs.Common.{take, Grown, thread_lines}
use Rattle.bp_view.proofs.setup_lines.push_threads.Given as goal

abbrev pub invariant-loop-thread : goal.invariant-loop-thread
invariant-loop-thread l = Grown l.fn.view l.view (thread_lines 0 (take l.thread l.setup.entries))
