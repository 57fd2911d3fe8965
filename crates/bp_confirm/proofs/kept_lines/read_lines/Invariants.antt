use Rattle.bp_confirm.proofs.Common.{◌≤◌, ◌+◌, length, AllByRecursion, AreReadTo, kept_lines, lines_at, AreWithin, IsKeptLine, step_line}
use Rattle.bp_confirm.proofs.kept_lines.read_lines.Given as goal

abbrev pub invariant-loop-rest : goal.invariant-loop-rest
invariant-loop-rest l = record {
  kept : AllByRecursion IsKeptLine l.kept.items;
  few : length l.kept.items ≤ length l.places.items;
  within : AreWithin (kept_lines l.kept.items) l.places.items;
  read : AreReadTo step_line l.text (lines_at (kept_lines l.kept.items) l.places.items) l.rest;
  less : length l.places.items + length l.rest ≤ length l.text;
}

abbrev pub decreases-loop-rest : goal.decreases-loop-rest
decreases-loop-rest l = length l.rest
