use Rattle.bp_code.proofs.Common.{take_all}
use Rattle.bp_code.proofs.RepeatedNames.{name_more}
use Rattle.bp_code.proofs.uses.stray_names.Goals as goal

pub loop-name-preserved : goal.loop-name-preserved
loop-name-preserved c =
    rw c.least-best.ensures (name_more c.args.declared.now c.args.names.now c.loop-name.name-index c.name-item.result
    _ _ c.loop-name-test.true c.name-item.is c.loop-name.invariant c.stray_name.ensures)

pub returns : goal.returns
returns c = let all = take_all c.loop-name.name-index c.args.names.now c.loop-name-test.false in rw all at c.loop-name.invariant
