use Rattle.bp_flat.proofs.Common.{◌≡◌, map, take, formula_values, store_of, formula_of}
use Rattle.bp_flat.proofs.expr_lists.SlotExprs.values.Given as goal

abbrev pub invariant-loop-expr : goal.invariant-loop-expr
invariant-loop-expr l = l.values.items ≡ formula_values (store_of l.store) (map formula_of (take l.expr-index l.expr-items))
