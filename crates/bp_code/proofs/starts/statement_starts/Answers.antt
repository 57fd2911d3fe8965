use Rattle.bp_code.proofs.BlockItems.{procs_more}
use Rattle.bp_code.proofs.starts.statement_starts.Goals as goal

pub loop-proc-preserved : goal.loop-proc-preserved
loop-proc-preserved c =
    let noted = rw c.body.ensures at c.in_ok-record_block.ensures in
    procs_more c.procs-procs.result.now c.loop-proc.proc-index c.proc-item.result c.loop-proc-test.true c.proc-item.is
    c.loop-proc.starts.items c.record_block.new.starts.items c.push.new.self.items _ noted c.in_ok-push.ensures.items c.loop-proc.invariant
