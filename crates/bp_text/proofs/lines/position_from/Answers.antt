use Rattle.bp_text.proofs.Common.{rules}
use Rattle.bp_text.proofs.LinesOfTexts.{take_parts, taken_within, line_within}
use Rattle.bp_text.proofs.lines.position_from.Goals as goal

pub after_all-requires-clause-line : goal.after_all-requires-clause-line
after_all-requires-clause-line c = search (rules, line_within, taken_within)

pub returns-then-at-size : goal.returns-then-at-size
returns-then-at-size c = search (rules, take_parts)
