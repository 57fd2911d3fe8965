use Rattle.bp_machine.proofs.SetupInRange.{stands_of}
use Rattle.bp_commands.proofs.Common.{sym}
use Rattle.bp_commands.proofs.explorations.run_texts.Goals as goal

pub returns-in-Found : goal.returns-in-Found
returns-in-Found c =
    let (code, stands) = c.requires c.in-Found.run' c.in-Found.is in
    let h = c.in-Found.run'.history.items in
    let here = stands_of (sym code) stands in
    let reported = c.report-report.ensures _ h here in
    rw (c.in-Found.is) (c.report-report.result, reported, rw code at (c.in_ok-said.ensures h here reported))
