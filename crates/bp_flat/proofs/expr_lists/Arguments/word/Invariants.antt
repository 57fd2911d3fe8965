use Rattle.bp_flat.proofs.Common.{◌≡◌, map, take, formula_values, bits_from, bits_of, store_of, formula_of}
use Rattle.bp_flat.proofs.expr_lists.Arguments.word.Given as goal

abbrev pub invariant-loop-i : goal.invariant-loop-i
invariant-loop-i l = bits_of l.word ≡ bits_from (take l.i (formula_values (store_of l.store) (map formula_of l.value-items)))
