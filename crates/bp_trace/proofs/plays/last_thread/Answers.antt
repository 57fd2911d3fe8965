use Rattle.bp_trace.proofs.Common.{sym}
use Rattle.bp_trace.proofs.LongestAccepted.{last_is}
use Rattle.bp_trace.proofs.plays.last_thread.Goals as goal

pub returns-in-Some : goal.returns-in-Some
returns-in-Some c = last_is c.args.history.now c.in-Some.call.now (sym c.in-Some.ensures.value)
