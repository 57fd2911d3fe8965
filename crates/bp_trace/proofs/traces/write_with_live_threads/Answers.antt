use Rattle.bp_trace.proofs.Common.{and_then, written_at_end}
use Rattle.bp_trace.proofs.traces.write_with_live_threads.Goals as goal

pub returns : goal.returns
returns g c =
    let end = rw c.requires at c.put_end.ensures in
    written_at_end _ _ _ _ _ _ c.out-1.given c.new-sink.ensures
    (and_then c.put_head_of.ensures (and_then c.put_history.ensures end)) c.finish.ensures
