use Rattle.bp_trace.proofs.Common.{◌+◌, ap, inr, rules, err_from_is_err_and}
use Rattle.bp_machine.proofs.SetupInRange.{stands_of}
use Rattle.bp_trace.proofs.LongestAccepted.{playable_of}
use Rattle.bp_trace.proofs.ReplayedTexts.{body_keeps, body_refuses, end_keeps, end_refuses}
use Rattle.bp_trace.proofs.replays.play_opened.Goals as goal

pub returns-in_err-body-clause-judged : goal.returns-in_err-body-clause-judged
returns-in_err-body-clause-judged g c = search (rules, err_from_is_err_and, body_refuses, body_keeps)

pub returns-in-Err-clause-judged : goal.returns-in-Err-clause-judged
returns-in-Err-clause-judged g c = λ at fine.
    let o = c.args.opened.now in
    let t = c.args.session.now.code.tree in
    let stood = stands_of c.play.ensures.kept.0 c.in_ok-body.ensures.played.0 in
    let body = rw c.text_from-rest.ensures at c.in_ok-body.ensures.body in
    let h = c.in_ok-body.body.played.history.items in
    let playable = playable_of t c.play.new.session o.setup h c.play.ensures.kept.1 stood in
    let report = rw c.play.ensures.kept.1 at (c.report-report.ensures t h stood) in
    let first = ap (λ n. n + 1) at.lines in
    let refused = rw (c.text_from-end.ensures, c.text_from-rest.ensures) at c.in-Err.ensures in
    record {
      refusal =
          end_refuses t c.args.text.now c.requires.fits.short o.version o.setup _ at.has at.parts fine (o.lines + 1) first
          c.in_ok-body.body body playable c.report-report.result report c.in-Err.error refused;
      longest =
          inr (end_keeps t c.args.text.now c.requires.fits.short o.version o.setup _ at.has at.parts fine (o.lines + 1) first
          c.in_ok-body.body body playable c.report-report.result report);
    }
