use Rattle.bp_trace.proofs.Common.{all_read}
use Rattle.bp_trace.proofs.heads.entries_at.Goals as goal

pub returns : goal.returns
returns c = all_read c.loop-name.invariant c.in_default.ensures
