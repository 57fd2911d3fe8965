use Rattle.bp_explore.proofs.Common.{Bool, List, true, false, sym, ◌∙◌, subst, StateOf, NodeOf, IsNext, AreAtMost}
use Rattle.bp_explore.proofs.Growth.{grown_then, at_most_kept, made_step, expands_both, seen_step_kept}
use Rattle.bp_explore.proofs.spaces.Space.expand.Goals as goal

pub returns-then-is_same_step : goal.returns-then-is_same_step
returns-then-is_same_step g c =
    let (node, is, fits) = c.requires.here in
    let o = g.O.Observer.listed c.args.observer.now in
    let code = c.args.code.now.instructions in
    let loaded = c.in_ok-made.ensures in
    let v = c.transition-first.result in
    let made = λ (bit : Bool) (next : IsNext code c.load.new.self.spare c.args.thread bit v). made_step o code c.args.level c.args.self.now.nodes.items c.args.from node is
    c.args.thread fits c.load.new.self.spare c.in_ok-made.made (loaded.loaded node is) (loaded.made node is) bit v next _ _ c.load.ensures.items c.in_ok-follow.ensures in
    let first = made false c.transition-first.ensures in
    let same = subst (IsNext code c.load.new.self.spare c.args.thread true) (sym (c.is_same_step.ensures c.if-is_same_step.true)) c.transition-second.ensures in
    let again = made true same in
    expands_both o code c.args.level _ c.args.from node is c.args.thread fits _ first.0 first.1 again.1

pub follow-requires-2 : goal.follow-requires-2
follow-requires-2 g c =
    let (node, is, fits) = c.requires.here in
    let loaded = c.in_ok-made.ensures in
    let (grown, seen) = made_step (g.O.Observer.listed c.args.observer.now) c.args.code.now.instructions c.args.level _ c.args.from node is c.args.thread fits
    c.load.new.self.spare _ (loaded.loaded node is) (loaded.made node is) false _ c.transition-first.ensures _ _ c.load.ensures.items c.in_ok-follow.ensures in
    subst (λ (l : List NodeOf). AreAtMost l c.args.level) (sym c.load-2.ensures.items) (at_most_kept _ _ _ _ _ grown c.requires.most)

pub returns : goal.returns
returns g c =
    let (node, is, fits) = c.requires.here in
    let o = g.O.Observer.listed c.args.observer.now in
    let code = c.args.code.now.instructions in
    let level = c.args.level in
    let i = c.args.thread in
    let mid = c.follow.new.self.nodes.items in
    let new = c.follow-2.new.self.nodes.items in
    let loaded = c.in_ok-made.ensures in
    let own = loaded.loaded node is in
    let (grown, seen) = made_step o code level _ c.args.from node is i fits c.load.new.self.spare _ own (loaded.made node is) false _ c.transition-first.ensures _ _
    c.load.ensures.items c.in_ok-follow.ensures in
    let there = grown.kept c.args.from node is in
    let again = c.in_ok-load.ensures.loaded node there in
    let (next, also) = made_step o code level mid c.args.from node there i fits c.load-2.new.self.spare _ again (loaded.made node is) true _
    (subst (λ (x : StateOf). IsNext code x i true c.transition-second.result) (own ∙ sym again) c.transition-second.ensures) _ _
    c.load-2.ensures.items c.in_ok-follow-2.ensures in
    expands_both o code level _ c.args.from node is i fits new (grown_then o code level _ mid grown new next)
    (seen_step_kept o code level mid new next node i level false seen) also
