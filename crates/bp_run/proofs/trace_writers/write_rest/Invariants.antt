use Rattle.bp_run.proofs.Common.{IsRestWritten, rest_length}
use Rattle.bp_run.proofs.trace_writers.write_rest.Given as goal

abbrev pub invariant-loop-call : goal.invariant-loop-call
invariant-loop-call g l =
    IsRestWritten g.W.Write.contents l.fn.writer.sink l.writer.sink l.fn.tap.rest l.tap.rest

abbrev pub decreases-loop-call : goal.decreases-loop-call
decreases-loop-call g l = rest_length l.tap.rest
