use Rattle.bp_trace.proofs.OneScheduleRefusal.{lines_drive_again}
use Rattle.bp_trace.proofs.laws.lines_drive_again.Goals as goal

pub returns : goal.returns
returns c = lines_drive_again
