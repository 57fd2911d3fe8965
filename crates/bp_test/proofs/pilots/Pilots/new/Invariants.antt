use Rattle.bp_test.proofs.Common.{◌≡◌}
use Rattle.bp_test.proofs.RunsOfTests.{IsReseeded}
use Rattle.bp_test.proofs.pilots.Pilots.new.Given as goal

abbrev pub invariant-loop-pilot : goal.invariant-loop-pilot
invariant-loop-pilot g l = record {
  code : l.session.code ≡ l.fn.code;
  setup : IsReseeded l.session.setup l.fn.setup;
}
