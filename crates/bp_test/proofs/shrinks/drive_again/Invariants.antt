use Rattle.bp_test.proofs.Common.{◌≡◌, Stands}
use Rattle.bp_test.proofs.shrinks.drive_again.Given as goal

abbrev pub invariant-loop-line : goal.invariant-loop-line
invariant-loop-line l = record {
  stands : Stands l.session.code.tree l.session l.history.items;
  code : l.session.code ≡ l.initial.session.code;
  setup : l.session.setup ≡ l.initial.session.setup;
}
