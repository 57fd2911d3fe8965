use Rattle.bp_code.proofs.Common.{take, ap, sym, ◌∙◌, ◌++◌, ◌∷◌, [], take_all, take_more, IsProcedureError}
use Rattle.bp_code.proofs.ErrorsOfParts.{one_of_more}
use Rattle.bp_code.proofs.checks.error_of_procedures.Goals as goal

pub loop-proc-preserved : goal.loop-proc-preserved
loop-proc-preserved c =
    let front =
    take_more c.args.procs.now c.loop-proc.proc-index c.proc-item.result c.loop-proc-test.true
    ∙ ap (λ x. take c.loop-proc.proc-index c.args.procs.now ++ x ∷ []) (sym c.proc-item.is) in
    rw (c.least-best.ensures, front)
    (one_of_more (IsProcedureError c.args.globals.now c.args.callees.now) _ c.proc-item.result _ _ c.loop-proc.invariant c.in_ok-found.ensures)

pub returns : goal.returns
returns c = rw (take_all c.loop-proc.proc-index c.args.procs.now c.loop-proc-test.false) at c.loop-proc.invariant
