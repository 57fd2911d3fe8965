use Rattle.bp_source.proofs.Common.{◌≡◌, ◌++◌, map, values_of, named_bit_in, named_bits, pieces_left}
use Rattle.bp_source.proofs.NamedValues.{size_left}
use Rattle.bp_source.proofs.initial_bits.named_bits.Given as goal

abbrev pub invariant-loop-rest : goal.invariant-loop-rest
invariant-loop-rest l = named_bits l.text ≡ values_of l.items.items ++ map named_bit_in (pieces_left l.rest)

abbrev pub decreases-loop-rest : goal.decreases-loop-rest
decreases-loop-rest l = size_left l.rest
