use Rattle.bp_view.proofs.Growth.{ends, listed}
use Rattle.bp_view.proofs.frames.push_condition_members.Goals as goal

pub returns : goal.returns
returns c =
    let values = listed c.len-start.ensures (rw c.as_slice.ensures.value at c.push_changed.ensures) c.close_list.ensures in
    c.put_pieces.ensures.followed _ _ (ends values)
