use Rattle.bp_syntax.proofs.trees.Tree.is_of_a_text.Goals as goal

pub returns : goal.returns
returns c = rw (← c.self.view_is) c.self.invariant
