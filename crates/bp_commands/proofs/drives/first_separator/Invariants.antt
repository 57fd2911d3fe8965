use Rattle.bp_commands.proofs.Common.{◌≡◌, ◌≤◌, length, take, ends_line, HasNoneBefore}
use Rattle.bp_commands.proofs.drives.first_separator.Given as goal

abbrev pub invariant-loop-at : goal.invariant-loop-at
invariant-loop-at l = record {
  within : l.at ≤ length l.input;
  line : l.begins ≡ ends_line (take l.at l.input);
  none : HasNoneBefore l.input l.at;
}
