use Rattle.bp_syntax.proofs.Common.{}
use Rattle.bp_syntax.proofs.SpelledNames.{on_one_line}
use Rattle.bp_syntax.proofs.laws.has_names_on_one_line.Goals as goal

pub returns : goal.returns
returns c = on_one_line
