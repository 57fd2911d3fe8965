use Rattle.bp_confirm.proofs.Common.{rules}
use Rattle.bp_confirm.proofs.OwnStepsMade.{point_there, point_missing}
use Rattle.bp_confirm.proofs.noted_steps.position_of.Goals as goal

pub returns-in_default-point_of : goal.returns-in_default-point_of
returns-in_default-point_of c = search (rules, point_missing)

pub returns : goal.returns
returns c = search (rules, point_there)
