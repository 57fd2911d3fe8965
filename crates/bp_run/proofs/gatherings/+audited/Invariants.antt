use Rattle.bp_run.proofs.Common.{vec_len}
use Rattle.bp_run.proofs.gatherings.+audited.Given as goal

abbrev pub decreases-audited : goal.decreases-audited
decreases-audited g l = vec_len l.sums.seats
