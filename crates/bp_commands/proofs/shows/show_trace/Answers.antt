use Rattle.bp_commands.proofs.Common.{◌≡◌, true, err_from_is_err_and, IsAcceptedTrace, Pair, shows_part}
use Rattle.bp_commands.proofs.ViewedTraces.{line_cut, line_shown, part_refused}
use Rattle.bp_commands.proofs.shows.show_trace.Goals as goal

pub returns-in_err-show_part : goal.returns-in_err-show_part
returns-in_err-show_part g c =
    let p = err_from_is_err_and c.from_residual-in_err-show_part.result c.from_residual-in_err-show_part.ensures.1 in
    let given : Pair = record { text = c.args.text.now; input = c.args.trace.now } in
    let task = c.args.asked.task.now in
    let t = c.args.code.now.tree in
    let x = c.in-Some.accepted in
    let valid : task.valid ≡ true = c.if-not-asked.false in
    let accepted : IsAcceptedTrace t c.args.trace.now x = rw c.in-Some.is at c.in_ok-accepted.ensures in
    rw (p.1, p.2, valid) (part_refused task.options.format (shows_part task c.args.asked.screen) given t c.requires x accepted _ _ _
    (rw c.as_slice-valid.ensures.value at c.in_err-show_part.ensures))

pub returns-in_err-put_refusal : goal.returns-in_err-put_refusal
returns-in_err-put_refusal g c =
    let p = err_from_is_err_and c.from_residual-in_err-put_refusal.result c.from_residual-in_err-put_refusal.ensures.1 in
    let given : Pair = record { text = c.args.text.now; input = c.args.trace.now } in
    let task = c.args.asked.task.now in
    let t = c.args.code.now.tree in
    let x = c.in-Some.accepted in
    let valid : task.valid ≡ true = c.if-not-asked.false in
    let accepted : IsAcceptedTrace t c.args.trace.now x = rw c.in-Some.is at c.in_ok-accepted.ensures in
    rw (p.1, p.2, valid) (line_cut task.options.format (shows_part task c.args.asked.screen) given t c.requires x accepted _ _ _ _
    (rw c.as_slice-valid.ensures.value at c.in_ok-show_part.ensures) c.in_err-put_refusal.ensures)

pub returns : goal.returns
returns g c =
    let given : Pair = record { text = c.args.text.now; input = c.args.trace.now } in
    let task = c.args.asked.task.now in
    let t = c.args.code.now.tree in
    let x = c.in-Some.accepted in
    let valid : task.valid ≡ true = c.if-not-asked.false in
    let accepted : IsAcceptedTrace t c.args.trace.now x = rw c.in-Some.is at c.in_ok-accepted.ensures in
    rw (c.from.ensures, valid) (line_shown task.options.format (shows_part task c.args.asked.screen) given t c.requires x accepted _ _ _ _
    (rw c.as_slice-valid.ensures.value at c.in_ok-show_part.ensures) c.in_ok-put_refusal.ensures)
