use Rattle.bp_flat.proofs.Common.{◌≡◌, take, bits_from, bits_of}
use Rattle.bp_flat.proofs.stores.word_of.Given as goal

abbrev pub invariant-loop-i : goal.invariant-loop-i
invariant-loop-i l = bits_of l.word ≡ bits_from (take l.i l.bits)
