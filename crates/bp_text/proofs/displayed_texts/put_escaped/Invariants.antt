use Rattle.bp_text.proofs.Common.{flat_map, take, string_byte, Given}
use Rattle.bp_text.proofs.displayed_texts.put_escaped.Given as goal

abbrev pub invariant-loop-byte : goal.invariant-loop-byte
invariant-loop-byte g l =
    Given g.W.Write.contents l.fn.sink l.sink (flat_map string_byte (take l.byte-index l.text))
