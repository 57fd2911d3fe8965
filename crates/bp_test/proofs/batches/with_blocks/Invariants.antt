use Rattle.bp_test.proofs.Common.{◌≡◌, ◌≤◌, ◌-◌, None, AreBlocks, IsTallied}
use Rattle.bp_test.proofs.batches.with_blocks.Given as goal

abbrev pub invariant-loop-all : goal.invariant-loop-all
invariant-loop-all g l = record {
  low : l.fn.batch.from ≤ l.all.end;
  high : l.all.end ≤ l.fn.batch.to;
  none : l.all.found ≡ None;
  tallied : IsTallied l.fn.code.tree l.fn.setup l.fn.plan.with_deadlock l.fn.plan.seed 0 l.all.end None l.all.tally;
  each : AreBlocks l.fn.code.tree l.fn.setup l.fn.plan l.fn.batch.size l.fn.batch.to l.made.items;
}

abbrev pub decreases-loop-all : goal.decreases-loop-all
decreases-loop-all g l = l.fn.batch.to - l.all.end
