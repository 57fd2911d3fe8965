use Rattle.bp_machine.proofs.Common.{rules}
use Rattle.bp_machine.proofs.HistoryWithCall.{calls_other, count_same, ended_same}
use Rattle.bp_machine.proofs.calls.is_terminated.Goals as goal
use Rattle.bp_machine.proofs.calls.is_terminated.Goals.{then-call-thread, else-call-thread}

pub loop-call-preserved : goal.loop-call-preserved
loop-call-preserved c = search (rules, then-call-thread, count_same, ended_same, else-call-thread, calls_other)
