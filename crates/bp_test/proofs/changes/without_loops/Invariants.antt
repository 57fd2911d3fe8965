use Rattle.bp_test.proofs.Common.{◌≡◌}
use Rattle.bp_test.proofs.changes.without_loops.Given as goal

abbrev pub invariant-loop-call : goal.invariant-loop-call
invariant-loop-call l = record {
  code : l.session.code ≡ l.initial.session.code;
  setup : l.session.setup ≡ l.initial.session.setup;
}
