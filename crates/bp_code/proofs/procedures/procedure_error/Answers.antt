use Rattle.bp_code.proofs.Common.{◌++◌, ◌∙◌, ap, TwiceLocal, MAX_OWN_NAMES, variables, IsErrorOfNames, IsErrorOfBody}
use Rattle.bp_code.proofs.ErrorsOfParts.{finds_both}
use Rattle.bp_code.proofs.procedures.procedure_error.Goals as goal

pub returns : goal.returns
returns c =
    let q = c.args.proc.now in
    let own = c.in_ok-own.ensures in
    let declared = c.new-declared.ensures ∙ ap (λ ns. ns ++ c.args.globals.now) own in
    rw c.least.ensures
    (finds_both (IsErrorOfNames TwiceLocal MAX_OWN_NAMES (variables q))
    (IsErrorOfBody (variables q ++ c.args.globals.now) c.args.callees.now q) _ _
    (rw own at c.error_of_names-found.ensures) (rw declared at c.in_ok-inside.ensures))
