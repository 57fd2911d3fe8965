use Rattle.bp_explore.proofs.Common.{◌+◌, false, subst, SearchEnd, IsSearchEnd}
use Rattle.bp_explore.proofs.PlayedThrough.{most_can_be_made, one_more, through_answer}
use Rattle.bp_explore.proofs.explorations.through_ending_of.Goals as goal

pub returns-in-Closed : goal.returns-in-Closed
returns-in-Closed g c = λ bound own end.
    let t = c.args.code.now.tree in
    let o = g.O.Observer.listed c.args.observer.now in
    let s = c.args.setup.now in
    let nodes = c.args.space.now.nodes.items in
    let made = c.most_made-made.result in
    let found = subst (λ (e : SearchEnd). IsSearchEnd t s o bound false nodes e) c.in-Closed.is end in
    let can = most_can_be_made o nodes made c.most_made-made.ensures t s c.in-Closed.last c.requires.some found.0 in
    (can.0, can.1, λ k. (found.1 k).none_more (made + 1) (one_more o nodes made c.most_made-made.ensures))

pub returns-in-Bound : goal.returns-in-Bound
returns-in-Bound g c = λ bound own end.
    let t = c.args.code.now.tree in
    let o = g.O.Observer.listed c.args.observer.now in
    let s = c.args.setup.now in
    let nodes = c.args.space.now.nodes.items in
    let made = c.most_made-made-in-Bound.result in
    let found = subst (λ (e : SearchEnd). IsSearchEnd t s o bound false nodes e) c.in-Bound.is end in
    let can = most_can_be_made o nodes made c.most_made-made-in-Bound.ensures t s c.in-Bound.contexts c.requires.some found.1 in
    (found.0, can.0, can.1, found.2.none_more (made + 1) (one_more o nodes made c.most_made-made-in-Bound.ensures))

pub returns-in_ok-played_through-in-Found : goal.returns-in_ok-played_through-in-Found
returns-in_ok-played_through-in-Found g c = λ bound own end.
    let t = c.args.code.now.tree in
    let o = g.O.Observer.listed c.args.observer.now in
    let s = c.args.setup.now in
    let found = subst (λ (e : SearchEnd). IsSearchEnd t s o bound false c.args.space.now.nodes.items e) c.in-Found.is end in
    through_answer c.args.code.now t s o bound c.in-Found.contexts (λ m below. (found.0 m below).none) found.1 c.in_ok-played_through-in-Found.field-0
    (c.in_ok-played_through-in-Found.ensures own)
