use Rattle.bp_test.proofs.Common.{◌≡◌, ◌≤◌, ◌-◌, max, List, length, MadeRun, IsTally, AreCleanRuns}
use Rattle.bp_test.proofs.RunsOfTests.{IsReseeded}
use Rattle.bp_test.proofs.batches.first_found.Given as goal

abbrev pub invariant-loop-run : goal.invariant-loop-run
invariant-loop-run g l = record {
  code : l.session.code ≡ l.fn.code;
  setup : IsReseeded l.session.setup l.fn.setup;
  earlier : List MadeRun;
  count : length earlier ≡ l.run - l.fn.from;
  ahead : l.run ≤ max l.fn.from l.fn.to;
  clean : AreCleanRuns l.fn.code.tree l.fn.setup l.fn.plan.with_deadlock l.fn.plan.seed l.fn.from earlier;
  tallied : IsTally l.fn.code.tree l.fn.setup earlier l.tally;
}
