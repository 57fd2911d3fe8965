use Rattle.bp_confirm.proofs.Common.{◌≡◌, take, position_at, ends, points_from}
use Rattle.bp_confirm.proofs.source_points.source_points_of.Given as goal

abbrev pub invariant-loop-start : goal.invariant-loop-start
invariant-loop-start l = record {
  here : l.here ≡ position_at l.text l.at;
  procedure : l.procedure ≡ ends (take l.start-index l.start-items);
  points : l.points.items ≡ points_from l.text 0 (take l.start-index l.start-items);
}
