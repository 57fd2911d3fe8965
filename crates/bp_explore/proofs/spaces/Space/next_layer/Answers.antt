use Rattle.bp_explore.proofs.Common.{◌≤◌, length, sym, subst, arith, AreLayered, IsClosed}
use Rattle.bp_explore.proofs.Growth.{grown_then, layered_kept, layered_next}
use Rattle.bp_explore.proofs.spaces.Space.next_layer.Goals as goal

pub close_layer-requires-clause-layered : goal.close_layer-requires-clause-layered
close_layer-requires-clause-layered g c =
    let (k, is, e) = c.requires in
    subst (λ m. AreLayered c.begin_layer.new.self.nodes.items m c.args.level) (sym c.len-next.ensures)
    (layered_next _ _ _ _ c.args.from k c.args.level is e.layered c.in_ok-begin_layer.ensures.grown)

pub returns : goal.returns
returns g c =
    let o = g.O.Observer.listed c.args.observer.now in
    let code = c.args.code.now.instructions in
    let level = c.args.level in
    let threads = c.args.threads in
    let old = c.args.self.now.nodes.items in
    let mid = c.begin_layer.new.self.nodes.items in
    let new = c.close_layer.new.self.nodes.items in
    let (k, is, e) = c.requires in
    let g1 = c.in_ok-begin_layer.ensures.grown in
    let g2 = c.in_ok-close_layer.ensures.grown in
    let longer = g1.longer in
    let longest = g2.longer in
    let next = c.len-next.ensures in
    record {
      first = next;
      grown = grown_then o code level old mid g1 new g2;
      explored = record {
        layered = layered_kept o code level mid new g2 c.len-next.result (omega (arith, next, longer))
            (subst (λ m. AreLayered mid m level) (sym next) (layered_next o code old mid c.args.from k level is e.layered g1));
        closed = c.in_ok-close_layer.ensures.closed threads (subst (λ m. IsClosed o code threads mid m level) (sym next) c.in_ok-begin_layer.ensures.closed);
        few = omega (arith, next, longer, longest);
      };
    }
