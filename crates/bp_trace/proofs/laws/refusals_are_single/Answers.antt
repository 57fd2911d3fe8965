use Rattle.bp_trace.proofs.OneRefusal.{one_refusal, refused_is_no_trace}
use Rattle.bp_trace.proofs.laws.refusals_are_single.Goals as goal

pub returns-clause-one : goal.returns-clause-one
returns-clause-one c = one_refusal

pub returns-clause-none : goal.returns-clause-none
returns-clause-none c = refused_is_no_trace
