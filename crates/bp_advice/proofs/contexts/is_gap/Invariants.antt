use Rattle.bp_advice.proofs.Common.{length}
use Rattle.bp_advice.proofs.AllKinds.{HasOnlyGaps}
use Rattle.bp_advice.proofs.contexts.is_gap.Given as goal

abbrev pub invariant-loop-lexeme : goal.invariant-loop-lexeme
invariant-loop-lexeme l = HasOnlyGaps l.rest → HasOnlyGaps l.text

abbrev pub decreases-loop-lexeme : goal.decreases-loop-lexeme
decreases-loop-lexeme l = length l.rest
