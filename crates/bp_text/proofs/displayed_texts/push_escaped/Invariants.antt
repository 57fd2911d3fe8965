use Rattle.bp_text.proofs.Common.{◌≡◌, ◌++◌, flat_map, take, string_byte}
use Rattle.bp_text.proofs.displayed_texts.push_escaped.Given as goal

abbrev pub invariant-loop-byte : goal.invariant-loop-byte
invariant-loop-byte l = l.line.items ≡ l.initial.line.items ++ flat_map string_byte (take l.byte-index l.text)
