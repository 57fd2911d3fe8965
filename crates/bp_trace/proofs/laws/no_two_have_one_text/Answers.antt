use Rattle.bp_trace.proofs.OneText.{one_text}
use Rattle.bp_trace.proofs.laws.no_two_have_one_text.Goals as goal

pub returns : goal.returns
returns c = λ v w s r h g p q e. one_text v w s r h g p q e
