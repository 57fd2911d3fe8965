use Rattle.bp_code.proofs.Common.{take_all, labelled_of, IsStatementError}
use Rattle.bp_code.proofs.ErrorsOfParts.{one_of_more, labelled_more}
use Rattle.bp_code.proofs.procedures.error_of_statements.Goals as goal

pub loop-stmt-preserved : goal.loop-stmt-preserved
loop-stmt-preserved c =
    let grown = labelled_more c.args.stmts.now c.loop-stmt.stmt-index c.stmt-item.result c.loop-stmt-test.true c.stmt-item.is in
    rw (c.least-best.ensures, grown)
    (one_of_more (λ s. IsStatementError c.args.declared.now c.args.callees.now c.args.labels.now s.statement) _
    (labelled_of c.stmt-item.result.now) _ _ c.loop-stmt.invariant (rw c.form.ensures at c.in_ok-found.ensures))

pub returns : goal.returns
returns c = rw (take_all c.loop-stmt.stmt-index c.args.stmts.now c.loop-stmt-test.false) at c.loop-stmt.invariant
