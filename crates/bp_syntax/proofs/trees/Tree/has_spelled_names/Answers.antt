use Rattle.bp_syntax.proofs.Common.{}
use Rattle.bp_syntax.proofs.SpelledNames.{spelled_names}
use Rattle.bp_syntax.proofs.trees.Tree.has_spelled_names.Goals as goal

pub returns : goal.returns
returns c = spelled_names c.args.self.now (rw (← c.self.view_is) c.self.invariant)
