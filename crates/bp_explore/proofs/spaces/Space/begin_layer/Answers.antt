use Rattle.bp_explore.proofs.Common.{◌≡◌, ◌<◌, ◌≤◌, length, arith, level_with}
use Rattle.bp_explore.proofs.Growth.{item_at, grown_none, grown_then, closed_below, closed_kept, closed_next, closed_less, before, expanded_kept, other_closed, at_most_kept, at_most_more, at_most_layered}
use Rattle.bp_explore.proofs.spaces.Space.begin_layer.Goals as goal

pub loop-at-init : goal.loop-at-init
loop-at-init g c =
    let (k, is, e) = c.requires in
    record { grown = grown_none _ _ _ _; closed = closed_below _ _ _ _ _ k _ e.layered e.few e.closed }

pub switch-requires-clause-most : goal.switch-requires-clause-most
switch-requires-clause-most g c =
    let (k, is, e) = c.requires in
    at_most_kept _ _ _ _ _ c.loop-at.invariant.grown (at_most_more _ k _ (omega (arith, is)) (at_most_layered _ _ k e.layered))

pub switch-requires-clause-here : goal.switch-requires-clause-here
switch-requires-clause-here g c =
    let (k, is, e) = c.requires in
    let (node, there) = item_at c.args.self.now.nodes.items c.loop-at.at (omega (arith, c.loop-at-test.true, c.len-at-end.ensures)) in
    let low = at_most_layered _ _ k e.layered c.loop-at.at node there in
    (node, c.loop-at.invariant.grown.kept c.loop-at.at node there, omega (arith, is, low))

pub loop-at-preserved : goal.loop-at-preserved
loop-at-preserved g c =
    let (k, is, e) = c.requires in
    let o = g.O.Observer.listed c.args.observer.now in
    let code = c.args.code.now.instructions in
    let xs = c.args.self.now.nodes.items in
    let ys = c.loop-at.self.nodes.items in
    let zs = c.switch.new.self.nodes.items in
    let at = c.loop-at.at in
    let level = c.args.level in
    let grown = c.loop-at.invariant.grown in
    let next = c.in_ok-switch.ensures in
    let all = grown_then o code level xs ys grown zs next.grown in
    let longer = grown.longer in
    let near : at < length xs = omega (arith, c.loop-at-test.true, c.len-at-end.ensures) in
    record {
      grown = all;
      closed = closed_next o code c.args.threads zs at level
          (closed_kept o code level ys zs next.grown c.args.threads at level (omega (arith, near, longer)) c.loop-at.invariant.closed)
          (λ node i found within fits.
          let there = before o code level xs zs all at node near found in
          other_closed o code zs node i k level is ((e.layered at node there).1 c.loop-at.auto.at)
          (λ small. expanded_kept o code level xs zs all node i (level_with node i) (e.closed at node i near there within small))
          (λ other. next.expanded node i (grown.kept at node there) (within, other)));
    }

pub returns-clause-closed : goal.returns-clause-closed
returns-clause-closed g c =
    let ended : length c.args.self.now.nodes.items ≤ c.loop-at.at = omega (arith, c.loop-at-test.false, c.len-at-end.ensures) in
    closed_less _ _ _ _ _ _ _ ended c.loop-at.invariant.closed
