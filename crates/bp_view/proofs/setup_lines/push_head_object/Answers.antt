use Rattle.bp_view.proofs.Growth.{and_then, listed}
use Rattle.bp_view.proofs.setup_lines.push_head_object.Goals as goal

pub returns : goal.returns
returns c =
    let entries = listed c.len-entries.ensures c.push_entries.ensures c.close_list.ensures in
    let values = listed c.len-values.ensures c.push_values.ensures c.close_list-2.ensures in
    let limits = rw (c.from.ensures, c.from-2.ensures, c.contexts.ensures, c.calls.ensures, c.seed.ensures) at c.put_pieces.ensures.given in
    c.put_two.ensures.followed _ _ (and_then entries (and_then c.put.ensures (and_then values limits)))
