use Rattle.bp_explore.proofs.Common.{◌≡◌, most_calls}
use Rattle.bp_explore.proofs.found_runs.most_calls.Given as goal

abbrev pub invariant-loop-thread : goal.invariant-loop-thread
invariant-loop-thread l = l.most ≡ most_calls l.thread l.calls
