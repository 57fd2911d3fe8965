use Rattle.bp_trace.proofs.Common.{written_at_end}
use Rattle.bp_trace.proofs.traces.write_end.Goals as goal

pub returns : goal.returns
returns g c = written_at_end _ _ _ _ _ _ c.out-1.given c.new-sink.ensures c.put_end.ensures c.finish.ensures
