use Rattle.bp_syntax.proofs.Common.{subst, HasText}
use Rattle.bp_syntax.proofs.trees.Tree.procs.Goals as goal

pub returns-clause-of_text : goal.returns-clause-of_text
returns-clause-of_text c = subst HasText c.self.view_is c.self.invariant
