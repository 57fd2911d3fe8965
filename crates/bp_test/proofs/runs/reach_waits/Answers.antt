use Rattle.bp_test.proofs.ReachedPlaces.{waits_more}
use Rattle.bp_test.proofs.runs.reach_waits.Goals as goal

pub loop-thread-preserved : goal.loop-thread-preserved
loop-thread-preserved c = λ h stands.
    let t = c.args.session.now.code.tree in
    waits_more t c.args.session.now.setup h c.loop-thread.thread c.args.reached.now.items c.loop-thread.reached.items
    c.reach_wait.new.reached.items (c.loop-thread.invariant h stands) (c.reach_wait.ensures h stands (c.next_number.ensures h stands))
