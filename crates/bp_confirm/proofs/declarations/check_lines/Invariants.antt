use Rattle.bp_confirm.proofs.Common.{◌≤◌, ◌-◌, length, take, AreDeclaredLines, AreKnown}
use Rattle.bp_confirm.proofs.declarations.check_lines.Given as goal

abbrev pub invariant-loop-n : goal.invariant-loop-n
invariant-loop-n l = record {
  few : l.n ≤ length l.lines;
  declared : AreDeclaredLines l.checked l.setup (take l.n l.lines);
  known : AreKnown l.checked l.known.items;
}

abbrev pub decreases-loop-n : goal.decreases-loop-n
decreases-loop-n l = length l.lines - l.n
