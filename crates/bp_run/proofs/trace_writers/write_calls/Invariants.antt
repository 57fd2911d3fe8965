use Rattle.bp_run.proofs.Common.{AreCallsWritten}
use Rattle.bp_run.proofs.trace_writers.write_calls.Given as goal

abbrev pub invariant-loop : goal.invariant-loop
invariant-loop g l = AreCallsWritten g.W.Write.contents l.fn.writer.sink l.writer.sink l.fn.tap.taken l.tap.taken
