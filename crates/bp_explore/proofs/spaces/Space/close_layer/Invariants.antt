use Rattle.bp_explore.proofs.Common.{ℕ, IsClosed, IsGrown}
use Rattle.bp_explore.proofs.spaces.Space.close_layer.Given as goal

abbrev pub invariant-loop-at : goal.invariant-loop-at
invariant-loop-at g l = record {
  grown : IsGrown (g.O.Observer.listed l.observer) l.code.instructions l.level l.fn.self.nodes.items l.self.nodes.items;
  closed : (threads : ℕ) → IsClosed (g.O.Observer.listed l.observer) l.code.instructions threads l.fn.self.nodes.items l.from l.level
      → IsClosed (g.O.Observer.listed l.observer) l.code.instructions threads l.self.nodes.items l.at l.level;
}
