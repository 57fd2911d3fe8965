use Rattle.bp_syntax.proofs.LawsOfWellFormedPrograms.{distinct_names}
use Rattle.bp_syntax.proofs.checked_trees.Checked.has_distinct_names.Goals as goal

pub returns : goal.returns
returns c = distinct_names c.args.self.now (rw c.self.view_is at c.self.invariant)
