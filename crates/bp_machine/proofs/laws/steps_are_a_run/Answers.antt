use Rattle.bp_machine.proofs.RealFailures.{runs}
use Rattle.bp_machine.proofs.laws.steps_are_a_run.Goals as goal

pub returns : goal.returns
returns c = λ t s h legal. runs t s h legal
