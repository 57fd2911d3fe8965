use Rattle.bp_source.proofs.Common.{common_steps, ◌≡◌, ◌∙◌, ◌++◌, ◌==◌, ◌<◌, ℕ, List, [], ◌∷◌, length, ap, sym, subst, append-nil, arith, after_first, first_line, rest_left, SourceStatement, line_with, statements_after, IsSourced, nothing, line}
use Rattle.bp_source.proofs.listings.sourced_listing.Goals as goal

one_line : (rest next instruction written : List ℕ) (left after : List SourceStatement) → 0 < length rest → instruction ≡ first_line rest
    → next ≡ after_first (λ b. b == 10) rest → after ≡ statements_after instruction left
    → IsSourced next after written → IsSourced rest left (line_with instruction left ++ written)
one_line rest next instruction written left after some is_first is_next is_after sourced =
    let statements = is_after ∙ ap (λ w. statements_after w left) is_first in
    let from_next = subst (λ a. IsSourced next a written) statements sourced in
    let moved = subst (λ n. IsSourced n (statements_after (first_line rest) left) written) is_next from_next in
    subst (λ w. IsSourced rest left (line_with w left ++ written)) (sym is_first) (line some moved)

at_end : (rest : List ℕ) (left : List SourceStatement) → length rest ≡ 0 → IsSourced rest left []
at_end [] left none = nothing
at_end (b ∷ bs) left none = absurd (omega arith)

pub loop-line-preserved : goal.loop-line-preserved
loop-line-preserved c = grind (arith, common_steps, one_line, rest_left)

pub returns : goal.returns
returns c = record {
  statements = c.in_ok-statements.statements.items;
  are = c.in_ok-statements.ensures;
  is = subst (λ s. IsSourced c.args.listing.now s c.loop-line.out.items) c.as_slice-left.ensures.value
      (subst (IsSourced c.args.listing.now c.as_slice-left.result.now) (append-nil c.loop-line.out.items)
      (c.loop-line.invariant [] (at_end c.loop-line.rest.now c.loop-line.left.now c.in_default.ensures.size)));
}
