use Rattle.bp_test.proofs.Common.{All, IsBlock}
use Rattle.bp_test.proofs.batches.blocks_of_job.Given as goal

abbrev pub invariant-loop : goal.invariant-loop
invariant-loop g l = All (IsBlock l.code.tree l.setup l.plan l.batch.size l.batch.to) l.blocks.items
