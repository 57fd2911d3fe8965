use Rattle.bp_machine.proofs.RealFailures.{within}
use Rattle.bp_machine.proofs.laws.steps_are_within.Goals as goal

pub returns : goal.returns
returns c = λ t s h legal. within t s h legal
