use Rattle.bp_messages.proofs.Common.{length, [], IsLeft, wait_objects}
use Rattle.bp_messages.proofs.failures.put_wait_objects.Given as goal

abbrev pub invariant-loop-wait : goal.invariant-loop-wait
invariant-loop-wait g l =
    IsLeft g.W.Write.contents l.fn.sink l.sink (wait_objects [] l.fn.positions l.fn.waiting) (wait_objects l.before l.positions l.waiting)

abbrev pub decreases-loop-wait : goal.decreases-loop-wait
decreases-loop-wait g l = length l.waiting
