use Rattle.bp_test.proofs.Common.{◌≡◌}
use Rattle.bp_test.proofs.pilots.count_visible.Given as goal

abbrev pub invariant-loop-call : goal.invariant-loop-call
invariant-loop-call l = record {
  code : l.session.code ≡ l.fn.session.code;
  setup : l.session.setup ≡ l.fn.session.setup;
}
