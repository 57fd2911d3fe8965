use Rattle.bp_text.proofs.LinesOfTexts.{adds_these, one_line_map}
use Rattle.bp_text.proofs.lines.push_on_one_line.Goals as goal

pub returns-clause-one_line : goal.returns-clause-one_line
returns-clause-one_line c = adds_these _ _ _ c.loop-byte.invariant (one_line_map _)
