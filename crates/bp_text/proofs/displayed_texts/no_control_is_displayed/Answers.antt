use Rattle.bp_text.proofs.DisplayedTexts.{none_displayed}
use Rattle.bp_text.proofs.displayed_texts.no_control_is_displayed.Goals as goal

pub returns : goal.returns
returns c = none_displayed 0
