use Rattle.bp_explore.proofs.Common.{◌≡◌, ◌<◌, ◌≤◌, ℕ, Some, slice_get, NodeOf, IsLive}
use Rattle.bp_explore.proofs.spaces.Space.first_dead.Given as goal

abbrev pub invariant-loop-at : goal.invariant-loop-at
invariant-loop-at l = record {
  nodes : l.self.nodes.items ≡ l.fn.self.nodes.items;
  live : (n : ℕ) (node : NodeOf) → l.from ≤ n → n < l.at → slice_get l.fn.self.nodes.items n ≡ Some node → IsLive l.code.tree node.state;
}
