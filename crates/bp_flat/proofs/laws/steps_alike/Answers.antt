use Rattle.bp_flat.proofs.StandsForStepsAlike.{steps_alike}
use Rattle.bp_flat.proofs.laws.steps_alike.Goals as goal

pub returns : goal.returns
returns c = steps_alike c.args.code.now c.args.code.now.tree c.is_of_a_program.ensures.stands
