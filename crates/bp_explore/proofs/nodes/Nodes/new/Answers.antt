use Rattle.bp_explore.proofs.Common.{common_steps, arith}
use Rattle.bp_explore.proofs.PackedNodes.{packed_node}
use Rattle.bp_explore.proofs.nodes.Nodes.new.Goals as goal

pub returns : goal.returns
returns c = grind (arith, common_steps, packed_node)
