use Rattle.bp_text.proofs.Common.{◌∙◌, sym}
use Rattle.bp_text.proofs.NumbersInTurn.{more_than_number, no_whole_number}
use Rattle.bp_text.proofs.PartsOfTexts.{some_left}
use Rattle.bp_text.proofs.decimals.number_of.Goals as goal

pub returns-in_default : goal.returns-in_default
returns-in_default c = no_whole_number c.in_default.ensures

pub returns-else-is_empty : goal.returns-else-is_empty
returns-else-is_empty c = more_than_number c.in-Some.ensures (some_left c.in-Some.rest.now (sym c.is_empty.ensures ∙ c.if-is_empty.false))
