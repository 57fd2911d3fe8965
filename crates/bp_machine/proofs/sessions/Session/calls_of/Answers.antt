use Rattle.bp_machine.proofs.Common.{◌∙◌, sym, ap, slice_get}
use Rattle.bp_machine.proofs.sessions.Session.calls_of.Goals as goal

pub returns-in-Some : goal.returns-in-Some
returns-in-Some c = λ t h stands within.
    let guest = c.in-Some.guest.now.guest in
    let has = ap (λ y. slice_get y.machine.state.threads c.args.thread) (sym c.self.view_is) ∙ sym c.in-Some.ensures in
    c.calls.ensures ∙ (stands.state.thread c.args.thread guest has).calls
