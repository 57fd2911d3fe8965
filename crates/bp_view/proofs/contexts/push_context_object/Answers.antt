use Rattle.bp_view.proofs.Growth.{and_then, listed}
use Rattle.bp_view.proofs.contexts.push_context_object.Goals as goal

pub returns : goal.returns
returns c =
    let changes = listed c.len-start.ensures c.push_changed.ensures c.close_list.ensures in
    let others = and_then c.put.ensures (and_then changes c.put-2.ensures) in
    rw c.from.ensures at (c.put_pieces.ensures.followed _ _ (and_then c.push_position.ensures (and_then c.push_position-2.ensures others)))
