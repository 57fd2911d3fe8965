-- The values for the enums of src/: one level each, as the parts are seen by their models.
use Rattle.std.specs.Prelude.{Option, None, Some}
use Rattle.bp_flat.specs.declared.exprs.SlotExpr.{SlotExpr}
use Rattle.bp_flat.specs.declared.exprs.SlotExpr.TheVariants.{Const, Var, Not, Binary}
use Rattle.bp_flat.specs.declared.exprs.Test.{Test}
use Rattle.bp_flat.specs.declared.exprs.Test.TheVariants.{Choice, Value}
use Rattle.bp_flat.specs.Flat.{Formula, Bit, At, Inverse, Joined}

abbrev pub formula_of : SlotExpr → Formula
formula_of (Const b) = Bit b
formula_of (Var s) = At s
formula_of (Not f) = Inverse f
formula_of (Binary op a b) = Joined op a b

abbrev pub test_of : Test → Option Formula
test_of Choice = None
test_of (Value e) = Some (formula_of e)
