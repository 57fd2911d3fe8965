use Rattle.bp_text.proofs.Common.{◌≡◌, flat_map, take, string_byte}
use Rattle.bp_text.proofs.displayed_texts.is_plain.Given as goal

abbrev pub invariant-loop-byte : goal.invariant-loop-byte
invariant-loop-byte l = flat_map string_byte (take l.byte-index l.text) ≡ take l.byte-index l.text
