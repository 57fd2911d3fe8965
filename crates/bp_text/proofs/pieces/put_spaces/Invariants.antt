use Rattle.bp_text.proofs.Common.{spaces, Given}
use Rattle.bp_text.proofs.pieces.put_spaces.Given as goal

abbrev pub invariant-loop-done : goal.invariant-loop-done
invariant-loop-done g l = Given g.W.Write.contents l.fn.sink l.sink (spaces l.done)
