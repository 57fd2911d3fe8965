use Rattle.bp_code.proofs.OneRefusal.{one_refusal, none_of_well_formed}
use Rattle.bp_code.proofs.laws.has_one_refusal.Goals as goal

pub returns-clause-one : goal.returns-clause-one
returns-clause-one c = one_refusal

pub returns-clause-none : goal.returns-clause-none
returns-clause-none c = none_of_well_formed
