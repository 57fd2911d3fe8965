use Rattle.bp_syntax.proofs.FewStatements.{few_statements}
use Rattle.bp_syntax.proofs.trees.Tree.has_few_statements.Goals as goal

pub returns : goal.returns
returns c = few_statements c.args.self.now (rw (← c.self.view_is) c.self.invariant)
