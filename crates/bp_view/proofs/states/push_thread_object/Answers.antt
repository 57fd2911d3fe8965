use Rattle.bp_view.proofs.Growth.{and_then, listed}
use Rattle.bp_view.proofs.states.push_thread_object.Goals as goal

pub returns : goal.returns
returns c =
    let frames = listed c.len-start.ensures (rw c.as_slice.ensures.value at c.push_frames.ensures) c.close_list.ensures in
    rw (c.from.ensures, c.status_name.ensures) at (c.put_pieces.ensures.followed _ _ (and_then frames c.put.ensures))
