use Rattle.bp_trace.proofs.OneScheduleRefusal.{one_schedule_refusal, refused_drives_nowhere}
use Rattle.bp_trace.proofs.laws.schedules_have_one_refusal.Goals as goal

pub returns-clause-one : goal.returns-clause-one
returns-clause-one c = one_schedule_refusal

pub returns-clause-none : goal.returns-clause-none
returns-clause-none c = refused_drives_nowhere
