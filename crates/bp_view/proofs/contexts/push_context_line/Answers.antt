use Rattle.bp_view.proofs.Growth.{and_then, led_note}
use Rattle.bp_view.proofs.contexts.push_context_line.Goals as goal

pub returns : goal.returns
returns c =
    let room = rw c.saturating_sub.ensures at c.put.ensures in
    let changes = led_note c.len-start.ensures room c.len-middle.ensures c.push_changed.ensures c.drop_lead.ensures in
    rw c.from.ensures at (c.put_pieces.ensures.followed _ _ (and_then changes c.put-2.ensures))
