use Rattle.bp_trace.proofs.Common.{◌∙◌, err_from_is_err_and}
use Rattle.bp_trace.proofs.drives.drive.Goals as goal

pub write_with_live_threads-requires : goal.write_with_live_threads-requires
write_with_live_threads-requires g c =
    let open_of = (c.report-report.ensures _ c.in_ok-calls.calls.items c.in_ok-calls.ensures.stands).left_live in
    rw c.as_slice.ensures.value (rw (c.play.ensures.kept.1 ∙ c.in_ok-session.ensures.kept.1) at open_of)

pub returns-in_err-calls : goal.returns-in_err-calls
returns-in_err-calls g c =
    let p = err_from_is_err_and c.from_residual-in_err-calls.result c.from_residual-in_err-calls.ensures.1 in
    let kept = c.in_ok-session.ensures.kept in
    let refused = c.in_err-calls.ensures.refused (g.W.Write.contents c.args.out.now) in
    rw (p.1, p.2) (rw (kept.0, kept.1) at refused)
