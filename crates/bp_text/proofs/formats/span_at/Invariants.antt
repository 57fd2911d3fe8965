use Rattle.bp_text.proofs.Common.{length}
use Rattle.bp_text.proofs.SpansInTurn.{HasCome}
use Rattle.bp_text.proofs.formats.span_at.Given as goal

abbrev pub invariant-loop-byte : goal.invariant-loop-byte
invariant-loop-byte g l = HasCome g.M.Machine.takes g.M.Machine.may_end l.fn.first l.text l.state l.rest

abbrev pub decreases-loop-byte : goal.decreases-loop-byte
decreases-loop-byte g l = length l.rest
