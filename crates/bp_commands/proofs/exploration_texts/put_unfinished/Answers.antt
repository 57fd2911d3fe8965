use Rattle.bp_commands.proofs.Common.{and_then}
use Rattle.bp_commands.proofs.exploration_texts.put_unfinished.Goals as goal

pub returns : goal.returns
returns g c =
    let fewer = rw c.saturating_sub.ensures at c.put_count.ensures in
    let were = rw c.were_text.ensures at c.put-4.ensures in
    let reason = rw c.reason_text.ensures at c.put_pieces.ensures in
    let unseen = and_then c.put_count-2.ensures (and_then were (and_then c.put-5.ensures (and_then c.put_count-3.ensures reason))) in
    and_then c.put.ensures (and_then fewer (and_then c.put-2.ensures (and_then c.put_sought.ensures (and_then c.put-3.ensures unseen))))
