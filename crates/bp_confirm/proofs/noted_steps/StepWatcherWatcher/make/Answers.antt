use Rattle.bp_confirm.proofs.Common.{rules}
use Rattle.bp_confirm.proofs.OwnStepsMade.{noted, not_noted}
use Rattle.bp_confirm.proofs.noted_steps.StepWatcherWatcher.make.Goals as goal

pub returns-in_ok-note-clause-sees : goal.returns-in_ok-note-clause-sees
returns-in_ok-note-clause-sees c = search (rules, noted)

pub returns-else-is_granted-clause-sees : goal.returns-else-is_granted-clause-sees
returns-else-is_granted-clause-sees c = search (rules, not_noted)
