use Rattle.bp_messages.proofs.Common.{length, IsLeft, unreached_text}
use Rattle.bp_messages.proofs.summaries.put_unreached.Given as goal

abbrev pub invariant-loop-line : goal.invariant-loop-line
invariant-loop-line g l =
    IsLeft g.W.Write.contents l.fn.sink l.sink (unreached_text l.fn.lines l.fn.reached) (unreached_text l.lines l.reached)

abbrev pub decreases-loop-line : goal.decreases-loop-line
decreases-loop-line g l = length l.lines
