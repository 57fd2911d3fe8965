use Rattle.bp_view.proofs.Common.{◌≡◌, ◌∙◌, ◌<◌, ◌&&◌, true, [], length, map, get_or, ap, ap₂, sym, arith, length-map, get_or-map, list_all_more, declares}
use Rattle.bp_view.proofs.program_facts.undeclared.Goals as goal

pub loop-n-preserved : goal.loop-n-preserved
loop-n-preserved c =
    let t = c.args.checked.now in
    let names = c.args.names.now in
    let n = c.loop-n.n in
    let texts = map (λ x. x.now) names in
    let within : n < length texts = omega (arith, c.loop-n-test.true, length-map names (λ x. x.now)) in
    let here : declares t (get_or texts n []) ≡ true =
    let there = get_or-map (λ x. x.now) names n (record { ref_ptr = (0, 0); now = [] }) [] c.loop-n-test.true in
    ap (declares t) there ∙ sym c.declares.ensures ∙ c.if-not-declares.false in
    list_all_more (declares t) texts n [] within ∙ ap₂ (λ p q. p && q) c.loop-n.invariant here
