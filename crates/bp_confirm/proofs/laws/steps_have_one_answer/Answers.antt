use Rattle.bp_confirm.proofs.OneTextRefusal.{no_refusal_of_confirmed, one_refusal}
use Rattle.bp_confirm.proofs.laws.steps_have_one_answer.Goals as goal

pub returns-clause-one : goal.returns-clause-one
returns-clause-one c = one_refusal

pub returns-clause-none : goal.returns-clause-none
returns-clause-none c = no_refusal_of_confirmed
