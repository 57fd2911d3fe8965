use Rattle.btrun.proofs.Common.{◌≡◌, take, bits_in}
use Rattle.btrun.proofs.arguments.values.bits.Given as goal

abbrev pub invariant-loop-byte : goal.invariant-loop-byte
invariant-loop-byte l = l.bits.items ≡ bits_in (take l.byte-index l.text)
