use Rattle.bp_confirm.proofs.OwnStepsMade.{steps_of_the_run, text_of_lines, own_deadlock_confirmed, own_text_confirmed}
use Rattle.bp_confirm.proofs.laws.steps_are_of_the_run.Goals as goal

pub returns-clause-run : goal.returns-clause-run
returns-clause-run c = steps_of_the_run

pub returns-clause-text : goal.returns-clause-text
returns-clause-text c = text_of_lines

pub returns-clause-confirmed : goal.returns-clause-confirmed
returns-clause-confirmed c = own_text_confirmed c.runs_are_histories.ensures.each c.runs_are_histories.ensures.back

pub returns-clause-deadlock : goal.returns-clause-deadlock
returns-clause-deadlock c = own_deadlock_confirmed c.runs_are_histories.ensures.each c.runs_are_histories.ensures.back
