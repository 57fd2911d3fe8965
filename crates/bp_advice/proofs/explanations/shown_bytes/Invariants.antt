use Rattle.bp_advice.proofs.Common.{◌≡◌, take, map, shown}
use Rattle.bp_advice.proofs.explanations.shown_bytes.Given as goal

abbrev pub invariant-loop-byte : goal.invariant-loop-byte
invariant-loop-byte l = l.out.items ≡ map shown (take l.byte-index l.bytes)
