use Rattle.bp_messages.proofs.Common.{and_then}
use Rattle.bp_messages.proofs.asked_tests.put_asked_member.Goals as goal

pub returns : goal.returns
returns g c =
    let file = rw c.as_slice.ensures.value at c.put_pieces.ensures in
    let names = rw c.entries.ensures at c.put_names.ensures in
    let init = rw c.bits.ensures at c.put_bits.ensures in
    and_then file (and_then names (and_then c.put.ensures (and_then init c.put_bounds_members.ensures)))
