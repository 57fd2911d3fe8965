use Rattle.bp_syntax.proofs.Common.{◌≡◌, drop, first_too_many, token_list}
use Rattle.bp_syntax.proofs.lexer.first_too_many.Given as goal

abbrev pub invariant-loop-token : goal.invariant-loop-token
invariant-loop-token l = first_too_many l.count (token_list (drop l.token-index l.tokens)) ≡ first_too_many 0 (token_list l.tokens)
