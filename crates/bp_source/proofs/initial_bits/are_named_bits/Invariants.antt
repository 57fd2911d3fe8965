use Rattle.bp_source.proofs.Common.{◌≡◌, pieces_left, are_named, are_named_bits}
use Rattle.bp_source.proofs.NamedValues.{size_left}
use Rattle.bp_source.proofs.initial_bits.are_named_bits.Given as goal

abbrev pub invariant-loop-rest : goal.invariant-loop-rest
invariant-loop-rest l = are_named_bits l.text ≡ are_named (pieces_left l.rest)

abbrev pub decreases-loop-rest : goal.decreases-loop-rest
decreases-loop-rest l = size_left l.rest
