use Rattle.bp_messages.proofs.Common.{and_then, written_at_end}
use Rattle.bp_messages.proofs.summaries.put_summary.Goals as goal

pub returns : goal.returns
returns g c =
    let last = rw (c.as_slice-lines.ensures.value, c.as_slice-reached.ensures.value) at c.put_unreached.ensures in
    let counts = and_then c.put_counts.ensures (and_then c.put_pieces.ensures (and_then c.put_notes.ensures last)) in
    written_at_end _ _ _ _ _ _ c.out-1.given c.new-sink.ensures
    (and_then c.put_finding.ensures (and_then c.put_asked_line.ensures counts)) c.finish.ensures
