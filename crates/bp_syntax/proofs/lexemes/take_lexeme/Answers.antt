use Rattle.bp_syntax.proofs.Common.{false-eqb, rules}
use Rattle.bp_syntax.proofs.OneCut.{lexeme_is_taken}
use Rattle.bp_syntax.proofs.lexemes.take_lexeme.Goals as goal

pub returns-clause-lexeme : goal.returns-clause-lexeme
returns-clause-lexeme c = search (rules, false-eqb, lexeme_is_taken)
