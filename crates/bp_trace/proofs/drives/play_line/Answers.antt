use Rattle.bp_trace.proofs.ScheduleLines.{refused_line}
use Rattle.bp_trace.proofs.drives.play_line.Goals as goal

pub returns-in-Err-clause-refused : goal.returns-in-Err-clause-refused
returns-in-Err-clause-refused c =
    rw c.drive_error_of.ensures (refused_line c.args.session.now c.args.calls.now.items
    c.requires.stands c.args.line c.args.n c.in-Err.error c.requires.thread c.requires.unseeded
    c.in-Err.ensures.answer)
