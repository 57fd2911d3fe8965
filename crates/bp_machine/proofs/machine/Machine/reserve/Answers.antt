use Rattle.bp_machine.proofs.Common.{rules}
use Rattle.bp_machine.proofs.TransitionIsAnswer.{counted, same_guests, has_room, state}
use Rattle.bp_machine.proofs.machine.Machine.reserve.Goals as goal

pub returns-clause-state : goal.returns-clause-state
returns-clause-state c = search (rules, counted, state, same_guests)

pub returns-clause-ok : goal.returns-clause-ok
returns-clause-ok c = search (rules, counted, state, has_room)
