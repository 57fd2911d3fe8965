use Rattle.bp_commands.proofs.Common.{sym, IsObjectIn}
use Rattle.bp_commands.proofs.ConcludedReads.{by_lines, says}
use Rattle.bp_commands.proofs.error_reports.conclude.Goals as goal

pub returns-in-true-Err : goal.returns-in-true-Err
returns-in-true-Err g c =
    let given = c.args.given.now in
    let Explains = g.G.Texts.explains given in
    let f = c.in-true-Err.error in
    let explained = c.put_explanation-explained.result in
    let (said, for, written) = c.put_explanation-explained.ensures in
    let is = says (Explains f) explained c.explaining_text-lines.result said c.explaining_text-lines.ensures for in
    by_lines g.T.CommandAnswer.rule (IsObjectIn (g.G.Texts.is_in given) (g.G.Texts.given given) Explains) Explains c.report-end.result _ _ _
    explained f c.args.format c.args.done.now (sym c.in-true-Err.ensures) c.in-true-Err.is-1
    c.report-end.ensures.ends (said, is, written)
