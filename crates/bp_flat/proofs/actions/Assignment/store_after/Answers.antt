use Rattle.bp_flat.proofs.Common.{refl, ◌∙◌, map, slice_get_read, formula_values, store_of, formula_of}
use Rattle.bp_flat.proofs.SlotsOfNames.{with_slots_at, value_at}
use Rattle.bp_flat.proofs.actions.Assignment.store_after.Goals as goal

pub loop-i-preserved : goal.loop-i-preserved
loop-i-preserved c =
    let slots = c.as_slice-slot-items.result.now in
    let items = c.as_slice-values.result.now in
    let bits = formula_values (store_of c.args.store.now) (map formula_of items) in
    let at = slice_get_read slots _ c.loop-i.i c.slot-item.result refl c.loop-i-test.true c.slot-item.is in
    let found = c.in-Some.ensures.lookup in
    let expr = slice_get_read items _ c.loop-i.i c.in-Some.value.now refl found.3.0 found.1 in
    let got = value_at (store_of c.args.store.now) items c.loop-i.i c.in-Some.value.now c.value-bit.result expr c.value-bit.ensures in
    rw c.set.ensures (with_slots_at (store_of c.loop-i.after) slots bits c.loop-i.i c.slot-item.result c.value-bit.result at got ∙ c.loop-i.invariant)
