use Rattle.bp_trace.proofs.Common.{length, AreReadTo, bit}
use Rattle.bp_trace.proofs.heads.bits_at.Given as goal

abbrev pub invariant-loop-bit : goal.invariant-loop-bit
invariant-loop-bit l = AreReadTo bit l.text (l.bits.items) l.rest

abbrev pub decreases-loop-bit : goal.decreases-loop-bit
decreases-loop-bit l = length l.rest
