use Rattle.bp_machine.proofs.RunsAreHistories.{run_is_history}
use Rattle.bp_machine.proofs.HistoriesAreRuns.{history_is_run}
use Rattle.bp_machine.proofs.laws.runs_are_histories.Goals as goal

pub returns-clause-each : goal.returns-clause-each
returns-clause-each c = λ t s steps d run. run_is_history t s steps d run

pub returns-clause-back : goal.returns-clause-back
returns-clause-back c = λ t s h legal. history_is_run t s h legal
