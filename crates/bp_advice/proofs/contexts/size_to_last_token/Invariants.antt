use Rattle.bp_advice.proofs.Common.{◌≤◌, length}
use Rattle.bp_advice.proofs.contexts.size_to_last_token.Given as goal

abbrev pub invariant-loop-lexeme : goal.invariant-loop-lexeme
invariant-loop-lexeme l = l.size ≤ length l.text

abbrev pub decreases-loop-lexeme : goal.decreases-loop-lexeme
decreases-loop-lexeme l = length l.rest
