use Rattle.bp_trace.proofs.Common.{None, length, IsLeft, symbols_after}
use Rattle.bp_trace.proofs.traces.put_symbols.Given as goal

abbrev pub invariant-loop-call : goal.invariant-loop-call
invariant-loop-call g l =
    IsLeft g.W.Write.contents l.fn.sink l.sink (symbols_after None l.history) (symbols_after l.last l.calls)

abbrev pub decreases-loop-call : goal.decreases-loop-call
decreases-loop-call g l = length l.calls
