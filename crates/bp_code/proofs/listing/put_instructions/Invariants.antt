use Rattle.bp_code.proofs.Common.{IsLeft, lines_between}
use Rattle.bp_code.proofs.listing.put_instructions.Given as goal

abbrev pub invariant-loop-number : goal.invariant-loop-number
invariant-loop-number g l =
    IsLeft g.W.Write.contents l.fn.sink l.sink (lines_between l.instrs l.from l.end) (lines_between l.instrs l.number l.end)
