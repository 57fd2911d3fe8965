use Rattle.bp_commands.proofs.Common.{and_then}
use Rattle.bp_commands.proofs.exploration_texts.put_object.Goals as goal

pub returns : goal.returns
returns g c =
    let head = rw (c.found_word.ensures, c.reason_word.ensures, c.as_slice.ensures.value) at c.put_pieces.ensures in
    let last = rw c.as_slice-2.ensures.value at c.put_last_members.ensures in
    and_then head (and_then last c.put.ensures)
