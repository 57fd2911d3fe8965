use Rattle.bp_confirm.proofs.Common.{◌≤◌, ◌-◌, List, drop, AreAll, StepLineOf, step_line}
use Rattle.bp_confirm.proofs.kept_lines.step_on_line.Given as goal

abbrev pub invariant-loop-before : goal.invariant-loop-before
invariant-loop-before l = record {
  few : l._before - 1 ≤ l.line - 1;
  all : (lines : List StepLineOf) → AreAll step_line l.steps lines → AreAll step_line l.rest (drop (l._before - 1) lines);
}
