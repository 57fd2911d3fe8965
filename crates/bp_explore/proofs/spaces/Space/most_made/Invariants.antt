use Rattle.bp_explore.proofs.Common.{◌≡◌, ◌⊎◌, ◌<◌, ◌≤◌, ℕ, Some, slice_get, NodeOf, HasOneMade}
use Rattle.bp_explore.proofs.spaces.Space.most_made.Given as goal

abbrev pub invariant-loop-at : goal.invariant-loop-at
invariant-loop-at l = record {
  at_most : (n : ℕ) (node : NodeOf) → n < l.at → slice_get l.self.nodes.items n ≡ Some node → node.made ≤ l.most;
  attained : (l.most ≡ 0) ⊎ HasOneMade l.self.nodes.items l.most;
}
