use Rattle.bp_view.proofs.Common.{flat_map, take, Grown, thread_in, thread_text}
use Rattle.bp_view.proofs.states.push_threads.Given as goal

abbrev pub invariant-loop-thread : goal.invariant-loop-thread
invariant-loop-thread l = Grown l.fn.view l.view (flat_map (λ x. thread_text l.format (thread_in x)) (take l.thread-index l.threads))
