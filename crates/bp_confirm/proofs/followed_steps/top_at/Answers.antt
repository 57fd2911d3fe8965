use Rattle.bp_confirm.proofs.Common.{rules}
use Rattle.bp_confirm.proofs.ValuesSeen.{stands_where}
use Rattle.bp_confirm.proofs.followed_steps.top_at.Goals as goal

pub returns-then-not-is_there : goal.returns-then-not-is_there
returns-then-not-is_there c = search (rules, stands_where)

pub returns : goal.returns
returns c = search (rules, stands_where)
