use Rattle.bp_syntax.proofs.LawsOfWellFormedPrograms.{sound_statements}
use Rattle.bp_syntax.proofs.checked_trees.Checked.has_sound_statements.Goals as goal

pub returns : goal.returns
returns c = sound_statements c.args.self.now (rw c.self.view_is at c.self.invariant) (rw c.self.view_is at c.is_of_a_text.ensures)
