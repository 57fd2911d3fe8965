use Rattle.bp_syntax.proofs.LawsOfWellFormedPrograms.{few_names}
use Rattle.bp_syntax.proofs.checked_trees.Checked.has_few_names.Goals as goal

pub returns : goal.returns
returns c = few_names c.args.self.now (rw c.self.view_is at c.self.invariant)
