use Rattle.bp_text.proofs.Common.{length}
use Rattle.bp_text.proofs.NumbersInTurn.{IsFront}
use Rattle.bp_text.proofs.formats.long_number_at.Given as goal

abbrev pub invariant-loop-digit : goal.invariant-loop-digit
invariant-loop-digit l = IsFront l.text l.number l.rest

abbrev pub decreases-loop-digit : goal.decreases-loop-digit
decreases-loop-digit l = length l.rest
