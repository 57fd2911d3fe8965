use Rattle.bp_machine.proofs.Deadlocks.{none_later}
use Rattle.bp_machine.proofs.laws.deadlocks_last.Goals as goal

pub returns-clause-later : goal.returns-clause-later
returns-clause-later x = λ t s h more legal dead. none_later t s h more legal dead
