use Rattle.bp_view.proofs.Growth.{ends}
use Rattle.bp_view.proofs.outcomes.push_failure.Goals as goal

pub returns-in-Columns : goal.returns-in-Columns
returns-in-Columns c = rw c.in-Columns.is (rw c.from.ensures at (c.put_three.ensures.followed _ _ (ends c.push_condition_lines.ensures)))
