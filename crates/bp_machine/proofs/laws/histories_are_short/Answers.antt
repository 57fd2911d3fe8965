use Rattle.bp_machine.proofs.HistoriesAreRuns.{legal_length}
use Rattle.bp_machine.proofs.laws.histories_are_short.Goals as goal

pub returns : goal.returns
returns c = λ t s h legal. legal_length t s h legal
