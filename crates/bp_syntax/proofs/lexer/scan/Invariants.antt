use Rattle.bp_syntax.proofs.Common.{length, token_list}
use Rattle.bp_syntax.proofs.OneCut.{Known}
use Rattle.bp_syntax.proofs.lexer.scan.Given as goal

abbrev pub invariant-loop-rest : goal.invariant-loop-rest
invariant-loop-rest l = Known l.text l.at l.rest (token_list l.tokens.items) l.first_open l.nameless

abbrev pub decreases-loop-rest : goal.decreases-loop-rest
decreases-loop-rest l = length l.rest
