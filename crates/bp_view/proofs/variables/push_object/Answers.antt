use Rattle.bp_view.proofs.Growth.{and_then, ends, listed}
use Rattle.bp_view.proofs.variables.push_object.Goals as goal

pub returns : goal.returns
returns c = λ ready.
    let changes = listed c.len-start.ensures c.push_changed.ensures c.close_list.ensures in
    let end = and_then c.put-2.ensures (and_then c.push_printed.ensures (ends c.put-3.ensures)) in
    and_then c.push_first_members.ensures (and_then (c.push_members.ensures ready) (and_then c.put.ensures (and_then changes end)))
