use Rattle.bp_explore.proofs.Common.{◌<◌, true, false, List, refl, sym, subst, arith, Transition, NodeOf, IsTaken, IsFollowed, Step, Stays, Fails, Leads}
use Rattle.bp_explore.proofs.MadeSteps.{counted_to}
use Rattle.bp_explore.proofs.spaces.Space.follow.Goals as goal

pub returns-in-Stays : goal.returns-in-Stays
returns-in-Stays g c =
    let o = g.O.Observer.listed c.args.observer.now in
    (Stays, subst (λ (v : Transition). IsFollowed o c.args.made c.args.self.now.nodes.spare c.args.step.thread v Stays) (sym c.in-Stays.is) refl, refl)

pub returns-then-made_with-count : goal.returns-then-made_with-count
returns-then-made_with-count g c =
    let o = g.O.Observer.listed c.args.observer.now in
    let m = c.args.made in
    let x = c.args.self.now.nodes.spare in
    let i = c.args.step.thread in
    let n = c.made_with.result in
    let few : n < o.count = omega (arith, c.if-made_with-count.true, c.count.ensures) in
    let counted = counted_to o m i n x x true c.seen-seen.result c.seen-seen.ensures.thread
    (λ t a d at there failed. c.seen-seen.ensures.shows t a d (c.top-before.ensures t a at) there failed)
    (c.made_with.ensures.counted (omega (arith, few, c.made_with.ensures.more))) in
    (Fails n, subst (λ (v : Transition). IsFollowed o m x i v (Fails n)) (sym c.in-Fails.is) (n, counted, refl), (few, refl))

pub returns-in_ok-take-in-Steps : goal.returns-in_ok-take-in-Steps
returns-in_ok-take-in-Steps g c =
    let o = g.O.Observer.listed c.args.observer.now in
    let m = c.args.made in
    let x = c.args.self.now.nodes.spare in
    let z = c.take_step.new.self.spare in
    let i = c.args.step.thread in
    let n = c.made_with-made.result in
    let few : n < o.count = omega (arith, c.if-made-count.false, c.count-in-Steps.ensures) in
    let counted = counted_to o m i n x z false c.seen-seen-in-Steps.result c.seen-seen-in-Steps.ensures.thread
    (λ t a d at there failed. c.seen-seen-in-Steps.ensures.shows t a d (c.top-before-in-Steps.ensures t a at) there failed)
    (c.made_with-made.ensures.counted (omega (arith, few, c.made_with-made.ensures.more))) in
    let y : Step = Leads n z in (
      y,
      subst (λ (v : Transition). IsFollowed o m x i v y) (sym c.in-Steps.is) (n, z, counted, c.in_ok-take_step-in-Steps.ensures.spare, refl),
      subst (λ (l : List NodeOf). IsTaken o l i c.args.level y c.take.new.self.nodes.items) c.take_step.ensures.items
          (few, c.in_ok-take-in-Steps.ensures.added, c.in_ok-take-in-Steps.ensures.held),
    )
