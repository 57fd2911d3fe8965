use Rattle.bp_commands.proofs.Common.{err_from_is_err_and, Pair, on_screen}
use Rattle.bp_commands.proofs.ViewedTraces.{not_viewed, viewed}
use Rattle.bp_commands.proofs.shows.show_part.Goals as goal

pub returns-in_err-report : goal.returns-in_err-report
returns-in_err-report g c =
    let p = err_from_is_err_and c.from_residual.result c.from_residual.ensures.1 in
    let given : Pair = record { text = c.args.text.now; input = c.args.trace.now } in
    let task = c.args.asked.task.now in
    let why = rw c.on_screen-options.ensures at c.in_err-report.ensures in
    rw (p.1, p.2, c.in_default.is, c.if-task.false, c.if-task-2.false)
    (not_viewed (on_screen task.options c.args.asked.screen) task.program.now given c.args.code.now.tree c.requires _ _ c.in_err-report.field-0.0 why)

pub returns : goal.returns
returns g c =
    let given : Pair = record { text = c.args.text.now; input = c.args.trace.now } in
    let task = c.args.asked.task.now in
    let done = rw c.on_screen-options.ensures at c.in_ok-report.ensures in
    rw (c.in_default.is, c.if-task.false, c.if-task-2.false)
    (viewed (on_screen task.options c.args.asked.screen) task.program.now given c.args.code.now.tree c.requires _ _ c.in_ok-report.report done)
