use Rattle.bp_view.proofs.Common.{condition_in}
use Rattle.bp_view.proofs.BegunViews.{copied}
use Rattle.bp_view.proofs.Growth.{and_then, listed}
use Rattle.bp_view.proofs.outcomes.push_footer_object.Goals as goal

pub returns : goal.returns
returns c =
    let outcome = rw (copied condition_in c.as_ref.result, c.as_ref.ensures.value) at c.push_outcome.ensures in
    let waits = listed c.len-start.ensures (rw c.as_slice.ensures.value at c.push_waits.ensures) c.close_list.ensures in
    let end = and_then c.put.ensures (and_then waits c.put-2.ensures) in
    rw (c.from.ensures, c.from-2.ensures) at (c.put_pieces.ensures.followed _ _ (and_then outcome end))
