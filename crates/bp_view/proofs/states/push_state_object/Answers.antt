use Rattle.bp_view.proofs.Common.{bits_of}
use Rattle.bp_view.proofs.ChangedEntries.{from_first}
use Rattle.bp_view.proofs.Growth.{and_then, listed}
use Rattle.bp_view.proofs.states.push_state_object.Goals as goal

pub returns : goal.returns
returns c =
    let globals = listed c.len-globals.ensures (rw (from_first (bits_of c.args.state.now.values)) at c.push_values.ensures) c.close_list.ensures in
    let threads = listed c.len-threads.ensures (rw c.as_slice.ensures.value at c.push_threads.ensures) c.close_list-2.ensures in
    and_then c.push_state_members.ensures (and_then globals (and_then c.put.ensures (and_then threads c.put-2.ensures)))
