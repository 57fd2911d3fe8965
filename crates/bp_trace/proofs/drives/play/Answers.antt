use Rattle.bp_trace.proofs.Common.{common_steps, ◌∙◌, sym, arith, err_from_is_err_and, some_left}
use Rattle.bp_machine.proofs.SetupInRange.{stands_of}
use Rattle.bp_trace.proofs.ScheduleLines.{bad_line, line_refused, line_found, no_line}
use Rattle.bp_trace.proofs.drives.play.Goals as goal

pub returns-in_default-clause-refused : goal.returns-in_default-clause-refused
returns-in_default-clause-refused c = λ bytes.
    bad_line c.loop-rest.session c.args.session.now.code.tree c.args.session.now.setup c.loop-rest.calls.items c.loop-rest.invariant.setup (stands_of c.loop-rest.invariant.code c.loop-rest.invariant.stands)
    c.args.schedule.now c.loop-rest.rest.now c.requires.short c.loop-rest.invariant.front
    _ c.args.threads (omega (arith, c.len.ensures, c.loop-rest.calls.ok.0)) c.requires.threads
    (some_left c.loop-rest.rest.now (sym c.is_empty.ensures ∙ c.loop-rest-test.true))
    (no_line c.args.threads (omega arith) c.loop-rest.rest.now c.in_default.ensures) bytes

pub returns-in_err-play_line-clause-refused : goal.returns-in_err-play_line-clause-refused
returns-in_err-play_line-clause-refused c = grind (arith, common_steps, err_from_is_err_and, line_found, line_refused)
