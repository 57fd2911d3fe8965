use Rattle.bp_explore.proofs.Common.{◌≡◌, ◌+◌, sym, subst, arith, inl, inr, cases_lt, AreOthers}
use Rattle.bp_explore.proofs.Growth.{expands_then, at_most_kept, opened_small}
use Rattle.bp_explore.proofs.spaces.Space.switch.Goals as goal

pub expand-requires-clause-most : goal.expand-requires-clause-most
expand-requires-clause-most g c = at_most_kept _ _ _ _ _ c.loop-thread.invariant.grown c.requires.most

pub expand-requires-clause-here : goal.expand-requires-clause-here
expand-requires-clause-here g c =
    let (node, is, less) = c.requires.here in
    let small = opened_small node.last c.loop-thread.thread in
    (node, c.loop-thread.invariant.grown.kept c.args.at node is, omega (arith, less, small))

pub loop-thread-preserved : goal.loop-thread-preserved
loop-thread-preserved g c =
    let i = c.loop-thread.thread in
    expands_then _ _ _ c.args.at (AreOthers i) (λ node j. j ≡ i) (AreOthers (i + 1)) _ _ _
    (λ node j is other. elim (cases_lt j i) [ inl near ↦ inl (near, other.1) | inr past ↦ let below = other.0 in inr (omega (arith, below, past)) ])
    c.loop-thread.invariant c.in_ok-expand.ensures
