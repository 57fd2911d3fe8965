use Rattle.bp_view.proofs.Growth.{and_then, listed}
use Rattle.bp_view.proofs.frames.push_frame_object.Goals as goal

pub returns : goal.returns
returns c =
    let locals = listed c.len-start.ensures c.push_locals.ensures c.close_list.ensures in
    rw (c.as_bytes.ensures.value, c.text.ensures, c.name.ensures, c.line_of.ensures, c.column_of.ensures) at
    (c.put_pieces.ensures.followed _ _ (and_then locals c.put.ensures))
