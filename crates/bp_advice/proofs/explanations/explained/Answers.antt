use Rattle.bp_advice.proofs.Common.{rules}
use Rattle.bp_text.proofs.LinesOfTexts.{first_on_one_line}
use Rattle.bp_advice.proofs.explanations.explained.Goals as goal

pub returns : goal.returns
returns c = search (rules, first_on_one_line)
