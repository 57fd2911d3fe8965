use Rattle.bp_flat.proofs.Common.{◌≡◌, map, drop, with_slots, formula_values, store_of, formula_of}
use Rattle.bp_flat.proofs.actions.Assignment.store_after.Given as goal

-- the targets that are left make the same of the store now as all of them make of the first store
abbrev pub invariant-loop-i : goal.invariant-loop-i
invariant-loop-i l =
    let bits = formula_values (store_of l.store) (map formula_of l.values) in
    with_slots (store_of l.after) (drop l.i l.slot-items) (drop l.i bits) ≡ with_slots (store_of l.store) l.slot-items bits
