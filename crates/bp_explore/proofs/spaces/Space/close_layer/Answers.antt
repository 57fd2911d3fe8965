use Rattle.bp_explore.proofs.Common.{◌≡◌, ◌<◌, ◌≤◌, length, arith}
use Rattle.bp_explore.proofs.Growth.{grown_then, closed_kept, closed_next, closed_less, before, layered_kept, own_closed, at_most_kept, at_most_layered}
use Rattle.bp_explore.proofs.spaces.Space.close_layer.Goals as goal

pub returns-then-at-len-clause-closed : goal.returns-then-at-len-clause-closed
returns-then-at-len-clause-closed g c = λ threads closed.
    let ended : length c.loop-at.self.nodes.items ≤ c.loop-at.at = omega (arith, c.if-at-len.true, c.len.ensures) in
    closed_less _ _ threads _ _ _ _ ended (c.loop-at.invariant.closed threads closed)

pub go_on-requires-clause-most : goal.go_on-requires-clause-most
go_on-requires-clause-most g c = at_most_kept _ _ _ _ _ c.loop-at.invariant.grown (at_most_layered _ _ _ c.requires.layered)

pub loop-at-preserved : goal.loop-at-preserved
loop-at-preserved g c =
    let o = g.O.Observer.listed c.args.observer.now in
    let code = c.args.code.now.instructions in
    let xs = c.args.self.now.nodes.items in
    let ys = c.loop-at.self.nodes.items in
    let zs = c.go_on.new.self.nodes.items in
    let at = c.loop-at.at in
    let level = c.args.level in
    let grown = c.loop-at.invariant.grown in
    let next = c.in_ok-go_on.ensures in
    let near : at < length ys = omega (arith, c.if-at-len.false, c.len.ensures) in
    record {
      grown = grown_then o code level xs ys grown zs next.grown;
      closed = λ threads closed.
          closed_next o code threads zs at level
          (closed_kept o code level ys zs next.grown threads at level (omega (arith, near)) (c.loop-at.invariant.closed threads closed))
          (λ node i found within fits.
          let there = before o code level ys zs next.grown at node near found in
          own_closed o code zs node i level ((layered_kept o code level xs ys grown c.args.from c.requires.few c.requires.layered at node there).1 c.loop-at.auto.at) fits
          (λ j last. next.expanded node j there last));
    }

pub returns-then-len-limit-clause-closed : goal.returns-then-len-limit-clause-closed
returns-then-len-limit-clause-closed g c = λ threads closed.
    let ended : length c.loop-at.self.nodes.items ≤ c.loop-at.at = omega (arith, c.loop-at-test.false, c.if-len-limit.true, c.len-2.ensures) in
    closed_less _ _ threads _ _ _ _ ended (c.loop-at.invariant.closed threads closed)
