use Rattle.bp_text.proofs.Common.{flat_map, take, bit_text, Given}
use Rattle.bp_text.proofs.sinks.Sink.put_bits.Given as goal

abbrev pub invariant-loop-bit : goal.invariant-loop-bit
invariant-loop-bit g l =
    Given g.W.Write.contents l.fn.self l.self (flat_map bit_text (take l.bit-index l.bits))
