use Rattle.bp_source.proofs.Common.{◌∙◌, ◌++◌, ap, one_more, procedure_item}
use Rattle.bp_source.proofs.programs.push_procedures.Goals as goal

pub loop-proc-preserved : goal.loop-proc-preserved
loop-proc-preserved c =
    let added = c.in_ok-push_procedure.ensures ∙ ap (λ p. c.loop-proc.items.items ++ procedure_item p) c.proc-item.is in
    one_more procedure_item _ _ _ c.args.procs.now c.loop-proc.proc-index c.proc-item.result c.loop-proc-test.true c.loop-proc.invariant added
