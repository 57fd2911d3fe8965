use Rattle.bp_commands.proofs.Common.{map, refl, err_from_is_err_and, row_of, Pair, IsReplayText}
use Rattle.bp_messages.specs.ReplayLines.{shown_text}
use Rattle.bp_commands.proofs.OnTraces.{done, no_trace}
use Rattle.bp_commands.proofs.replays.replay_trace.Goals as goal

pub returns-in_err-replayed : goal.returns-in_err-replayed
returns-in_err-replayed g c = λ text of.
    let t = c.args.code.now.tree in
    let p = err_from_is_err_and c.from_residual.result c.from_residual.ensures.1 in
    let given : Pair = record { text = text; input = c.args.trace.now } in
    rw (p.1, p.2) (no_trace IsReplayText given t of _ c.in_err-replayed.field-0.0 c.in_err-replayed.ensures)

pub returns : goal.returns
returns g c = λ text of.
    let t = c.args.code.now.tree in
    let given : Pair = record { text = text; input = c.args.trace.now } in
    let r = c.in_ok-replayed.replayed in
    let is = c.in_ok-replayed.ensures in
    done IsReplayText given t of is.version r.setup r.history.items is.trace (shown_text (map row_of r.printed.items) r.report.outcome)
    (rw (is.printed, is.report.outcome) refl) _ _ c.in_ok-show_replay.ensures r.report is.report
