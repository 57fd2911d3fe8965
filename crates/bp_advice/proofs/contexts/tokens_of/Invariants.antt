use Rattle.bp_advice.proofs.Common.{length}
use Rattle.bp_advice.proofs.contexts.tokens_of.Given as goal

abbrev pub decreases-loop-lexeme : goal.decreases-loop-lexeme
decreases-loop-lexeme l = length l.rest
