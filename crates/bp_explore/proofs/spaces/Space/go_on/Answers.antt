use Rattle.bp_explore.proofs.Common.{sym, ◌∙◌, arith}
use Rattle.bp_explore.proofs.Growth.{item_at, opened_own}
use Rattle.bp_explore.proofs.spaces.Space.go_on.Goals as goal

pub expand-requires-clause-here : goal.expand-requires-clause-here
expand-requires-clause-here g c =
    let (node, is) = item_at c.args.self.now.nodes.items c.args.at c.requires.here in
    let low = c.requires.most c.args.at node is in
    let none = opened_own node.last c.in-Some.thread (sym (c.last.ensures node is) ∙ c.in-Some.is) in
    (node, is, omega (arith, low, none))
