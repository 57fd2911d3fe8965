use Rattle.bp_text.proofs.Common.{◌≡◌, ◌++◌, take, map, on_one_line}
use Rattle.bp_text.proofs.lines.push_on_one_line.Given as goal

abbrev pub invariant-loop-byte : goal.invariant-loop-byte
invariant-loop-byte l = l.line.items ≡ l.initial.line.items ++ map on_one_line (take l.byte-index l.bytes)
