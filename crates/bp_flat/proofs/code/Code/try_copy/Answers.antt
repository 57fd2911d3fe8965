use Rattle.bp_flat.proofs.code.Code.try_copy.Goals as goal

pub invariant_of-result : goal.invariant_of-result
invariant_of-result c = rw c.in_ok-parts.ensures c.self.invariant
