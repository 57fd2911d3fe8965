use Rattle.bp_confirm.proofs.Common.{rules}
use Rattle.bp_machine.proofs.SetupInRange.{stands_for_own}
use Rattle.bp_confirm.proofs.StepsFollowed.{fork_here}
use Rattle.bp_confirm.proofs.followed_steps.is_at_fork.Goals as goal

pub returns : goal.returns
returns c = search (rules, fork_here, stands_for_own)
