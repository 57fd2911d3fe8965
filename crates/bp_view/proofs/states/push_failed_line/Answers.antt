use Rattle.bp_view.proofs.states.push_failed_line.Goals as goal

pub returns-in-Failed : goal.returns-in-Failed
returns-in-Failed c = rw c.in-Failed.is (rw c.from.ensures at c.put_three.ensures.given)
