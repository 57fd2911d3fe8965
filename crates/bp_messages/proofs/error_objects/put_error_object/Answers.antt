use Rattle.bp_messages.proofs.Common.{and_then, written_at_end}
use Rattle.bp_messages.proofs.error_objects.put_error_object.Goals as goal

pub returns : goal.returns
returns g c =
    let object = and_then c.put_facts.ensures (and_then c.put_step.ensures c.put_pieces.ensures) in
    rw (← c.row-row.ensures)
    (written_at_end _ _ _ _ _ _ c.out-1.given c.new-sink.ensures (and_then c.put_refutation.ensures object) c.finish.ensures)
