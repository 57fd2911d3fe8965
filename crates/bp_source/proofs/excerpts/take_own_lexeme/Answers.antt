use Rattle.bp_source.proofs.Common.{◌∙◌, sym, subst, IsAtEnd, none_left, ending}
use Rattle.bp_source.proofs.excerpts.take_own_lexeme.Goals as goal

pub returns-in_default-clause-lexeme : goal.returns-in_default-clause-lexeme
returns-in_default-clause-lexeme c = subst IsAtEnd (sym c.in_default.ensures.lexeme) none_left

pub returns-then-is_ending-clause-lexeme : goal.returns-then-is_ending-clause-lexeme
returns-then-is_ending-clause-lexeme c = ending c.in-Some.ensures.lexeme (sym c.is_ending.ensures ∙ c.if-is_ending.true)
