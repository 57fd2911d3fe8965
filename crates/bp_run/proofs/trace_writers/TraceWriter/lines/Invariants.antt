use Rattle.bp_run.proofs.Common.{◌≡◌, true, take, Given, lines_of}
use Rattle.bp_run.proofs.trace_writers.TraceWriter.lines.Given as goal

abbrev pub invariant-loop-call : goal.invariant-loop-call
invariant-loop-call g l = record {
  wet : l.self.is_wet ≡ true;
  given : Given g.W.Write.contents l.fn.self.sink l.self.sink (lines_of (take l.call-index l.fn.calls));
}
