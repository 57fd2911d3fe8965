use Rattle.bp_code.proofs.Common.{take_all}
use Rattle.bp_code.proofs.RepeatedNames.{expression_more}
use Rattle.bp_code.proofs.uses.stray_in_all.Goals as goal

pub loop-expr-preserved : goal.loop-expr-preserved
loop-expr-preserved c =
    rw c.least-best.ensures (expression_more c.args.declared.now c.args.exprs.now c.loop-expr.expr-index
    c.expr-item.result _ _ c.loop-expr-test.true c.expr-item.is c.loop-expr.invariant c.stray_in.ensures)

pub returns : goal.returns
returns c = let all = take_all c.loop-expr.expr-index c.args.exprs.now c.loop-expr-test.false in rw all at c.loop-expr.invariant
