use Rattle.bp_trace.proofs.Common.{all_read}
use Rattle.bp_trace.proofs.heads.bits_at.Goals as goal

pub returns : goal.returns
returns c = all_read c.loop-bit.invariant c.in_default.ensures
