use Rattle.bp_explore.proofs.Common.{common_steps, length-append, arith, rules}
use Rattle.bp_explore.proofs.PackedNodes.{bounded_added, end_of_added, nodes_added}
use Rattle.bp_explore.proofs.nodes.Nodes.add.Goals as goal

pub invariant_of-self-2 : goal.invariant_of-self-2
invariant_of-self-2 c = grind (arith, common_steps, length-append, bounded_added, end_of_added)

pub returns : goal.returns
returns c = search (rules, length-append, nodes_added)
