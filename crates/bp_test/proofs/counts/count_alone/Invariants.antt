use Rattle.bp_test.proofs.Common.{◌≡◌, ◌≤◌, alone_before}
use Rattle.bp_test.proofs.counts.count_alone.Given as goal

abbrev pub invariant-loop-place : goal.invariant-loop-place
invariant-loop-place l = record {
  few : l.count ≤ l.place;
  count : l.count ≡ alone_before l.keys l.place;
}
