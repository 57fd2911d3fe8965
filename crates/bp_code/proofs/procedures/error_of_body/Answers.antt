use Rattle.bp_code.proofs.Common.{ap, ◌∙◌, TwiceLabel, labels, labels_of, statements, IsTwice, all_labelled, Only, IsErrorOfStatements}
use Rattle.bp_code.proofs.ErrorsOfParts.{finds_both}
use Rattle.bp_code.proofs.procedures.error_of_body.Goals as goal

pub returns : goal.returns
returns c =
    let q = c.args.proc.now in
    let found_labels =
    c.in_ok-labels.ensures ∙ c.in_ok-labels_in.ensures ∙ ap (λ xs. labels_of (all_labelled xs)) c.deref.ensures.value
    ∙ ap labels_of c.in_ok-stmts.ensures in
    let stmts = ap all_labelled c.deref-2.ensures.value ∙ c.in_ok-stmts.ensures in
    rw c.least.ensures
    (finds_both (IsErrorOfStatements c.args.declared.now c.args.callees.now (labels q.body) (statements q.body))
    (Only TwiceLabel (IsTwice (labels q.body))) _ _ (rw (found_labels, stmts) at c.in_ok-found.ensures)
    (rw found_labels at c.least_repeat.ensures))
