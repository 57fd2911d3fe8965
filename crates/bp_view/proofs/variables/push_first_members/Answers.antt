use Rattle.bp_view.proofs.Growth.{nothing}
use Rattle.bp_view.proofs.variables.push_first_members.Goals as goal

pub returns : goal.returns
returns c = c.put_two.ensures.followed _ _ (rw (c.from.ensures, c.wide.ensures) at (c.put_four.ensures.followed _ _ nothing))
