use Rattle.bp_confirm.proofs.Common.{◌≤◌, drop, AreAll, value, values_in}
use Rattle.bp_confirm.proofs.kept_lines.value_at_place.Given as goal

abbrev pub invariant-loop-before : goal.invariant-loop-before
invariant-loop-before l = record {
  few : l._before ≤ l.place;
  all : AreAll value l.rest (drop l._before (values_in l.values));
}
