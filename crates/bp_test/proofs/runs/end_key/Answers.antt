use Rattle.bp_test.proofs.Common.{no_thread, one_thread}
use Rattle.bp_test.proofs.runs.end_key.Goals as goal

pub loop-thread-init : goal.loop-thread-init
loop-thread-init c = λ h stands. no_thread

pub loop-thread-preserved : goal.loop-thread-preserved
loop-thread-preserved c = λ h stands.
    let t = c.args.session.now.code.tree in
    let was = c.loop-thread.invariant h stands in
    rw c.key_at_end-key.ensures (one_thread c.next_number.result was (c.next_number.ensures h stands))
