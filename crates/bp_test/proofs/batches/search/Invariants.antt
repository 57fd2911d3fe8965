use Rattle.bp_test.proofs.Common.{◌≡◌, ◌<◌, ◌≤◌, ◌-◌, None, LARGEST_SHARE, IsTallied}
use Rattle.bp_test.proofs.batches.search.Given as goal

abbrev pub invariant-loop-all : goal.invariant-loop-all
invariant-loop-all g l = record {
  within : l.all.end ≤ l.fn.runs;
  none : l.all.found ≡ None;
  some : 0 < l.share;
  short : l.share ≤ LARGEST_SHARE;
  tallied : IsTallied l.fn.code.tree l.fn.setup l.fn.plan.with_deadlock l.fn.plan.seed 0 l.all.end None l.all.tally;
}

abbrev pub decreases-loop-all : goal.decreases-loop-all
decreases-loop-all g l = l.fn.runs - l.all.end
