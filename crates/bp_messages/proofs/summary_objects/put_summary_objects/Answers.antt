use Rattle.bp_messages.proofs.Common.{and_then, written_at_end}
use Rattle.bp_messages.proofs.summary_objects.put_summary_objects.Goals as goal

pub returns : goal.returns
returns g c =
    let last = rw (c.as_slice-lines.ensures.value, c.as_slice-reached.ensures.value) at c.put_unreached.ensures in
    written_at_end _ _ _ _ _ _ c.out-1.given c.new-sink.ensures (and_then c.put_summary_object.ensures last) c.finish.ensures
