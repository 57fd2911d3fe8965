use Rattle.bp_syntax.proofs.Common.{◌≡◌, ◌≤◌, drop, NESTING_LIMIT, first_too_deep, token_list}
use Rattle.bp_syntax.proofs.lexer.first_too_deep.Given as goal

abbrev pub invariant-loop-token : goal.invariant-loop-token
invariant-loop-token l =
    (first_too_deep l.depth (token_list (drop l.token-index l.tokens)) ≡ first_too_deep 0 (token_list l.tokens)) × (l.depth ≤ NESTING_LIMIT)
