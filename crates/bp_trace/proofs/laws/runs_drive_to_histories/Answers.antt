use Rattle.bp_trace.proofs.OneScheduleRefusal.{runs_drive_to_histories}
use Rattle.bp_trace.proofs.laws.runs_drive_to_histories.Goals as goal

pub returns : goal.returns
returns c = runs_drive_to_histories
