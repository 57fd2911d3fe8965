use Rattle.bp_machine.proofs.OneCodeOneMeaning.{one_meaning}
use Rattle.bp_machine.proofs.laws.one_code_has_one_meaning.Goals as goal

pub returns : goal.returns
returns x = λ c t u s h st su fits legal. one_meaning c t u st su s fits h legal
