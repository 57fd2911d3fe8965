use Rattle.bp_commands.proofs.Common.{subst, sym, rules, err_from_is_err_and, IsReport, Pair, IsStateOf}
use Rattle.bp_view.specs.States.{IsStateOfTrace}
use Rattle.bp_commands.proofs.OnTraces.{cut, done, no_trace}
use Rattle.bp_commands.proofs.shows.show_state.Goals as goal

pub returns-in_err-state : goal.returns-in_err-state
returns-in_err-state g c =
    let p = err_from_is_err_and c.from_residual.result c.from_residual.ensures.1 in
    let given : Pair = record { text = c.args.text.now; input = c.args.trace.now } in
    rw (p.1, p.2) (no_trace (IsStateOf c.args.format c.args.number) given _ c.requires _ c.in_err-state.field-0.0 c.in_err-state.ensures)

pub returns-in_err-put : goal.returns-in_err-put
returns-in_err-put g c = search (rules, err_from_is_err_and, cut)

pub returns : goal.returns
returns g c =
    let given : Pair = record { text = c.args.text.now; input = c.args.trace.now } in
    let t = c.args.code.now.tree in
    let is = subst (λ w. IsStateOfTrace c.args.format c.args.number t given.text given.input w c.in_ok-state.report) (sym c.deref.ensures.value) c.in_ok-state.ensures in
    let reported = subst (IsReport is.replayed.setup is.replayed.history.items) (sym is.report_is) is.is.report in
    done (IsStateOf c.args.format c.args.number) given t c.requires is.is.version is.replayed.setup is.replayed.history.items is.is.trace _
    is.state_is _ _ c.in_ok-put.ensures _ reported
