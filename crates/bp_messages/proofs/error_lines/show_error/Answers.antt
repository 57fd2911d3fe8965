use Rattle.bp_messages.proofs.Common.{and_then, written_at_end}
use Rattle.bp_messages.proofs.error_lines.show_error.Goals as goal

pub returns : goal.returns
returns g c =
    rw (← c.row-row.ensures)
    (written_at_end _ _ _ _ _ _ c.out-1.given c.new-sink.ensures (and_then c.put_head.ensures (and_then c.put_detail.ensures c.put.ensures)) c.finish.ensures)
