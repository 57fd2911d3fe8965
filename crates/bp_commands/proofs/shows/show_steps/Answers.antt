use Rattle.bp_commands.proofs.Common.{ap, rules, err_from_is_err_and, own_steps_text, Pair, AreStepsOf}
use Rattle.bp_commands.proofs.OnTraces.{cut, done, no_trace}
use Rattle.bp_commands.proofs.shows.show_steps.Goals as goal

pub returns-in_err-found : goal.returns-in_err-found
returns-in_err-found g c =
    let p = err_from_is_err_and c.from_residual.result c.from_residual.ensures.1 in
    let given : Pair = record { text = c.args.text.now; input = c.args.trace.now } in
    rw (p.1, p.2) (no_trace AreStepsOf given _ c.requires _ c.in_err-found.field-0.0 c.in_err-found.ensures)

pub returns-in_err-put_steps : goal.returns-in_err-put_steps
returns-in_err-put_steps g c = search (rules, err_from_is_err_and, cut)

pub returns : goal.returns
returns g c =
    let given : Pair = record { text = c.args.text.now; input = c.args.trace.now } in
    let are = c.in_ok-found.ensures in
    done AreStepsOf given _ c.requires are.version are.setup are.history are.is (own_steps_text c.in_ok-found.found.steps.items)
    (ap own_steps_text are.steps_are) _ _ (rw c.as_slice.ensures.value at c.in_ok-put_steps.ensures) _ are.report
