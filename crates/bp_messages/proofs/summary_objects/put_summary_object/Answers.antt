use Rattle.bp_messages.proofs.Common.{and_then}
use Rattle.bp_messages.proofs.summary_objects.put_summary_object.Goals as goal

pub returns : goal.returns
returns g c =
    let failure = rw (c.statement_of-statement.ensures, c.failed_assertion-failure.ensures, c.as_slice.ensures.value) at c.put_failure_member.ensures in
    let waits = rw (c.as_slice-2.ensures.value, c.as_slice-3.ensures.value) at c.put_waits_member.ensures in
    let finding = rw (c.found_name.ensures, c.found_run.ensures) at c.put_pieces.ensures in
    let distinct = rw c.new_percent.ensures at c.put_pieces-2.ensures in
    let counts = and_then c.put_ends_members.ensures (and_then c.put_reach_members.ensures (and_then distinct c.put_notes_members.ensures)) in
    and_then finding (and_then failure (and_then waits (and_then c.put_asked_member.ensures counts)))
