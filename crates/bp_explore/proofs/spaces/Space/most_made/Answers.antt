use Rattle.bp_explore.proofs.Common.{◌≡◌, inl, inr, sym, ◌∙◌, subst, arith, cases_lt, slice_get, Some}
use Rattle.bp_explore.proofs.Growth.{item_at}
use Rattle.bp_explore.proofs.spaces.Space.most_made.Goals as goal

pub loop-at-preserved : goal.loop-at-preserved
loop-at-preserved c =
    let nodes = c.args.self.now.nodes.items in
    let at = c.loop-at.at in
    let most = c.max-most.ensures in
    let (node, is) = item_at nodes at (omega (arith, c.loop-at-test.true, c.len-at-end.ensures)) in
    let own = c.made.ensures node is in
    record {
      at_most = λ n next below found. elim (cases_lt n at) [
        | inl near ↦ let low = c.loop-at.invariant.at_most n next near found in omega (arith, low, most)
        | inr past ↦
            let same : n ≡ at = omega (arith, below, past) in
            let here = c.made.ensures next (subst (λ m. slice_get nodes m ≡ Some next) same found) in
            omega (arith, here, most)
      ];
      attained = elim (cases_lt c.loop-at.most c.made.result) [
        | inl less ↦ inr (record { at = at; node = node; is = is; same = omega (arith, less, own, most) })
        | inr low ↦
            let kept : c.max-most.result ≡ c.loop-at.most = omega (arith, low, most) in
            elim c.loop-at.invariant.attained [
              | inl none ↦ inl (kept ∙ none)
              | inr one ↦ inr (record { at = one.at; node = one.node; is = one.is; same = one.same ∙ sym kept })
            ]
      ];
    }
