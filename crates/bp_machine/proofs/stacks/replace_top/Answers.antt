use Rattle.bp_machine.proofs.Common.{arith}
use Rattle.bp_machine.proofs.SessionsInOrder.{replaced}
use Rattle.bp_machine.proofs.stacks.replace_top.Goals as goal

pub returns-then-count-gt0-clause-items : goal.returns-then-count-gt0-clause-items
returns-then-count-gt0-clause-items c =
    replaced c.args.frames.now.items c.args.frame c.len-count.result (omega (arith, c.args.frames.now.ok.0)) c.if-count-gt0.true
