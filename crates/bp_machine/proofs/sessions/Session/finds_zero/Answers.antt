use Rattle.bp_machine.proofs.Common.{◌∙◌, ap, sym, subst, true, Some, StepsAlike, stack_of, configuration_after, SessionOf, IsTransitionOn, is_blocked}
use Rattle.bp_machine.proofs.TransitionIsAnswer.{on_stack}
use Rattle.bp_machine.proofs.sessions.Session.finds_zero.Goals as goal

pub returns : goal.returns
returns c = λ h i stands has.
    let x = c.args.self.now in
    let t = x.code.tree in
    let guest = c.args.guest.now.guest in
    let now = configuration_after t x.setup h in
    let alike = subst (λ (y : SessionOf). StepsAlike y.code y.code.tree) c.self.view_is c.steps_alike.ensures in
    let shown = (stands.state.thread i guest has).stack in
    let judged = subst (λ (y : SessionOf). IsTransitionOn y.code.instructions y.machine.state.globals c.args.bit true
    guest.stack c.judge_step-transition.result) c.self.view_is c.judge_step-transition.ensures in
    let answer = on_stack x.code t alike c.args.bit x.machine.state.globals now.globals stands.state.globals
    guest.stack (stack_of now i) true c.judge_step-transition.result shown judged in
    c.is_blocked.ensures ∙ ap is_blocked (ap Some c.reply.ensures ∙ sym answer.reply)
