use Rattle.bp_commands.proofs.Common.{subst, sym, rules, err_from_is_err_and, IsReport, Pair, AreContextsOf}
use Rattle.bp_view.specs.ContextLines.{AreContextsOfTrace}
use Rattle.bp_commands.proofs.OnTraces.{cut, done, no_trace}
use Rattle.bp_commands.proofs.shows.show_contexts.Goals as goal

pub returns-in_err-lines : goal.returns-in_err-lines
returns-in_err-lines g c =
    let p = err_from_is_err_and c.from_residual.result c.from_residual.ensures.1 in
    let given : Pair = record { text = c.args.text.now; input = c.args.trace.now } in
    rw (p.1, p.2) (no_trace (AreContextsOf c.args.format) given _ c.requires _ c.in_err-lines.field-0.0 c.in_err-lines.ensures)

pub returns-in_err-put : goal.returns-in_err-put
returns-in_err-put g c = search (rules, err_from_is_err_and, cut)

pub returns : goal.returns
returns g c =
    let given : Pair = record { text = c.args.text.now; input = c.args.trace.now } in
    let t = c.args.code.now.tree in
    let is = subst (λ w. AreContextsOfTrace c.args.format t given.text given.input w c.in_ok-lines.report) (sym c.deref.ensures.value) c.in_ok-lines.ensures in
    let reported = subst (IsReport is.replayed.setup is.replayed.history.items) (sym is.report_is) is.is.report in
    done (AreContextsOf c.args.format) given t c.requires is.is.version is.replayed.setup is.replayed.history.items is.is.trace _
    is.lines_are _ _ c.in_ok-put.ensures _ reported
