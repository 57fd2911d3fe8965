use Rattle.bp_text.proofs.DisplayedTexts.{read_back}
use Rattle.bp_text.proofs.displayed_texts.strings_are_read_back.Goals as goal

pub returns : goal.returns
returns c = read_back
