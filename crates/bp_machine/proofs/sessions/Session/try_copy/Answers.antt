use Rattle.bp_machine.proofs.Common.{◌∙◌}
use Rattle.bp_machine.proofs.SessionsInOrder.{stays_in_order, still_stands}
use Rattle.bp_machine.proofs.sessions.Session.try_copy.Goals as goal

pub invariant_of-result : goal.invariant_of-result
invariant_of-result c =
    let choices = c.in_ok-choices.ensures ∙ c.as_slice.ensures.value in
    rw (c.in_ok-code.ensures, c.in_ok-setup.ensures, choices)
    (stays_in_order c.self.inside.code c.self.inside.setup c.self.inside.machine c.in_ok-machine.machine
    c.in_ok-machine.ensures c.self.inside.choices.items c.self.invariant)

pub returns-clause-stands : goal.returns-clause-stands
returns-clause-stands c = λ t h stands.
    let choices = c.in_ok-choices.ensures ∙ c.as_slice.ensures.value in
    rw (c.in_ok-code.ensures, c.in_ok-setup.ensures, choices)
    (still_stands c.self.inside.code c.self.inside.setup c.self.inside.machine c.in_ok-machine.machine
    c.in_ok-machine.ensures c.self.inside.choices.items t h (rw (← c.self.view_is) at stands))
