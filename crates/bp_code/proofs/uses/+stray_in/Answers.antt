use Rattle.bp_code.proofs.Common.{Uses}
use Rattle.bp_code.proofs.RepeatedNames.{both_stray}
use Rattle.bp_code.proofs.uses.+stray_in.Goals as goal

pub returns-in-Var : goal.returns-in-Var
returns-in-Var t c = rw c.in-Var.is c.stray_name.ensures

pub returns-in-Not : goal.returns-in-Not
returns-in-Not t c = rw (c.in-Not.is, ← c.get.ensures) c.stray_in.ensures

pub returns-in-Binary : goal.returns-in-Binary
returns-in-Binary t c =
    rw (c.in-Binary.is, c.least.ensures) (both_stray c.args.declared.now (Uses c.in-Binary.left)
    (Uses c.in-Binary.right) _ _ (rw c.get-in-Binary.ensures at c.stray_in-found.ensures)
    (rw c.get-in-Binary-2.ensures at c.stray_in-in-Binary.ensures))
