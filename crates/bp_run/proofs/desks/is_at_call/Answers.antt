use Rattle.bp_machine.proofs.SetupInRange.{stands_for_own}
use Rattle.bp_run.proofs.Common.{rules}
use Rattle.bp_run.proofs.desks.is_at_call.Goals as goal

pub returns-in_default-get : goal.returns-in_default-get
returns-in_default-get c = search (rules, stands_for_own)

pub returns-in-Call : goal.returns-in-Call
returns-in-Call c = search (rules, stands_for_own)

pub returns-in_default-kind : goal.returns-in_default-kind
returns-in_default-kind c = search (rules, stands_for_own)
