use Rattle.bp_test.proofs.Common.{below_more, RestsIn}
use Rattle.bp_test.proofs.schedulers.first.Goals as goal

pub loop-thread-preserved : goal.loop-thread-preserved
loop-thread-preserved c =
    below_more (RestsIn c.args.session.now) c.loop-thread.thread c.loop-thread.invariant
    (c.may_step.ensures c.if-may_step.false)
