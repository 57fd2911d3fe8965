use Rattle.bp_syntax.proofs.checked_trees.Checked.is_of_a_text.Goals as goal

pub returns : goal.returns
returns c = rw c.self.view_is at c.is_of_a_text.ensures
