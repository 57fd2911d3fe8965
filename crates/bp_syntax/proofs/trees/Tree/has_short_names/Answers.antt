use Rattle.bp_syntax.proofs.NamesOfTokens.{short_names}
use Rattle.bp_syntax.proofs.trees.Tree.has_short_names.Goals as goal

pub returns : goal.returns
returns c = short_names c.args.self.now (rw (← c.self.view_is) c.self.invariant)
