use Rattle.bp_trace.proofs.Common.{◌≡◌, ◌++◌, flat_map, take}
use Rattle.bp_trace.proofs.end_lines.is_joined.Given as goal

abbrev pub invariant-loop-piece : goal.invariant-loop-piece
invariant-loop-piece l = l.text ≡ flat_map (λ p. p.now) (take l.piece-index l.pieces) ++ l.rest
