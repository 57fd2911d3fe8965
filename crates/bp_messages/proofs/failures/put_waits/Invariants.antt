use Rattle.bp_messages.proofs.Common.{length, IsLeft, waits_after, waits_text}
use Rattle.bp_messages.proofs.failures.put_waits.Given as goal

abbrev pub invariant-loop-wait : goal.invariant-loop-wait
invariant-loop-wait g l =
    IsLeft g.W.Write.contents l.fn.sink l.sink (waits_text l.file l.fn.positions l.fn.waiting)
    (waits_after l.file l.before l.verb l.positions l.waiting)

abbrev pub decreases-loop-wait : goal.decreases-loop-wait
decreases-loop-wait g l = length l.waiting
