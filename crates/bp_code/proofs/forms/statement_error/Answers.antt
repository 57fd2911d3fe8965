use Rattle.bp_code.proofs.Common.{statement_of}
use Rattle.bp_code.proofs.ErrorsOfParts.{with_stray}
use Rattle.bp_code.proofs.forms.statement_error.Goals as goal

pub returns : goal.returns
returns c =
    rw c.least.ensures (with_stray c.args.callees.now c.args.labels.now c.args.declared.now
    (statement_of c.args.form.now) _ _ c.in_ok-found.ensures c.stray.ensures)
