use Rattle.bp_test.proofs.Common.{◌≡◌}
use Rattle.bp_test.proofs.batches.take_block.Given as goal

abbrev pub invariant-loop-job : goal.invariant-loop-job
invariant-loop-job l = l.made ≡ l.fn.made
