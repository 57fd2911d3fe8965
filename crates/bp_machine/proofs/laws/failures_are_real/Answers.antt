use Rattle.bp_machine.proofs.RealFailures.{real}
use Rattle.bp_machine.proofs.laws.failures_are_real.Goals as goal

pub returns : goal.returns
returns c = λ t s h i legal failed. real t s h i legal failed
