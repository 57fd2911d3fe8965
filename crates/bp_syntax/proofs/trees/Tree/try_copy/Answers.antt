use Rattle.bp_syntax.proofs.trees.Tree.try_copy.Goals as goal

pub invariant_of-result : goal.invariant_of-result
invariant_of-result c = rw c.in_ok-parts.ensures c.self.invariant
