use Rattle.bp_text.proofs.Common.{◌≡◌, ◌++◌, ◌+◌, ◌≤◌, ℕ, List, take, position_after}
use Rattle.bp_text.proofs.lines.after_all.Given as goal

abbrev pub invariant-loop-byte : goal.invariant-loop-byte
invariant-loop-byte l = record {
  line : l.position.line ≤ l.initial.position.line + l.byte-index;
  column : l.position.column ≤ l.initial.position.column + l.byte-index;
  is : (before : List ℕ) → l.initial.position ≡ position_after before → l.position ≡ position_after (before ++ take l.byte-index l.bytes);
}
