use Rattle.bp_test.proofs.Common.{ℕ, ◌<◌, RestsIn}
use Rattle.bp_test.proofs.schedulers.first.Given as goal

abbrev pub invariant-loop-thread : goal.invariant-loop-thread
invariant-loop-thread l = (i : ℕ) → i < l.thread → RestsIn l.session i
