use Rattle.bp_syntax.proofs.OneAnswer.{only_memory, one_refusal}
use Rattle.bp_syntax.proofs.laws.has_one_refusal.Goals as goal

pub returns-clause-one : goal.returns-clause-one
returns-clause-one c = one_refusal

pub returns-clause-none : goal.returns-clause-none
returns-clause-none c = only_memory
