use Rattle.bp_advice.proofs.AllKinds.{AreTried}
use Rattle.bp_advice.proofs.offers.kinds_after.Given as goal

abbrev pub invariant-loop-kind : goal.invariant-loop-kind
invariant-loop-kind l = AreTried l.front l.kinds.items l.kind-index
