use Rattle.bp_syntax.proofs.ProgramsAreRead.{one_tree}
use Rattle.bp_syntax.proofs.laws.has_one_tree.Goals as goal

pub returns : goal.returns
returns c = one_tree
