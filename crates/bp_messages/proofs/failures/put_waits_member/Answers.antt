use Rattle.bp_messages.proofs.Common.{and_then}
use Rattle.bp_messages.proofs.failures.put_waits_member.Goals as goal

pub returns : goal.returns
returns g c = and_then c.put.ensures (and_then c.put_wait_objects.ensures c.put-2.ensures)
