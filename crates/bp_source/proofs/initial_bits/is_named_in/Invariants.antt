use Rattle.bp_source.proofs.Common.{◌≡◌, pieces_left, is_named_in}
use Rattle.bp_source.proofs.NamedValues.{size_left}
use Rattle.bp_source.proofs.initial_bits.is_named_in.Given as goal

abbrev pub invariant-loop-rest : goal.invariant-loop-rest
invariant-loop-rest l = is_named_in (pieces_left l.list) l.name ≡ is_named_in (pieces_left l.rest) l.name

abbrev pub decreases-loop-rest : goal.decreases-loop-rest
decreases-loop-rest l = size_left l.rest
