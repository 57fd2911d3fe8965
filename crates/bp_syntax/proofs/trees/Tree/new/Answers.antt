use Rattle.bp_syntax.proofs.trees.Tree.new.Goals as goal

pub invariant_of-result : goal.invariant_of-result
invariant_of-result c = rw c.in_ok-parts.ensures.ok c.requires
