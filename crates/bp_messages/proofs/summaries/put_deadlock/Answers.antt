use Rattle.bp_messages.proofs.Common.{and_then}
use Rattle.bp_messages.proofs.summaries.put_deadlock.Goals as goal

pub returns : goal.returns
returns g c =
    let waits = rw (c.as_slice-file.ensures.value, c.as_slice-positions.ensures.value, c.as_slice.ensures.value) at c.put_waits.ensures in
    let head = rw (c.of_word.ensures, c.limit_piece.ensures) at c.put_pieces.ensures in
    and_then head (and_then waits c.put.ensures)
