use Rattle.bp_trace.proofs.Common.{flat_map, take, Given, call_line}
use Rattle.bp_trace.proofs.traces.put_calls.Given as goal

abbrev pub invariant-loop-call : goal.invariant-loop-call
invariant-loop-call g l =
    Given g.W.Write.contents l.fn.sink l.sink (flat_map call_line (take l.call-index l.history))
