use Rattle.bp_commands.proofs.Common.{rules}
use Rattle.bp_text.proofs.LinesOfTexts.{first_on_one_line}
use Rattle.bp_commands.proofs.explanations.put_line.Goals as goal

pub returns : goal.returns
returns g c = search (rules, first_on_one_line)
