use Rattle.bp_code.proofs.Common.{◌≡◌, map, take, drop, expression_of, environment_of, NamesInExpressions, HasSlot, formulas_in}
use Rattle.bp_flat.specs.Views.{formula_of}
use Rattle.bp_code.proofs.translate.exprs.Given as goal

abbrev pub invariant-loop-e : goal.invariant-loop-e
invariant-loop-e l = record {
  done : map formula_of l.items.items ≡ formulas_in (environment_of l.environment) (map expression_of (take l.e-index l.e-items));
  left : NamesInExpressions (HasSlot (environment_of l.environment)) (map expression_of (drop l.e-index l.e-items));
}
