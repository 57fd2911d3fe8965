use Rattle.bp_flat.proofs.Common.{refl, ◌∙◌, map, slice_get_read, formula_values, bits_of, store_of, formula_of}
use Rattle.bp_flat.proofs.WordBits.{bits_from_more}
use Rattle.bp_flat.proofs.SlotsOfNames.{value_at}
use Rattle.bp_flat.proofs.expr_lists.Arguments.word.Goals as goal

pub loop-i-preserved : goal.loop-i-preserved
loop-i-preserved c =
    let items = c.as_slice-value-items.result.now in
    let bits = formula_values (store_of c.args.store.now) (map formula_of items) in
    let at = slice_get_read items _ c.loop-i.i c.value-item.result refl c.loop-i-test.true c.value-item.is in
    let got = value_at (store_of c.args.store.now) items c.loop-i.i c.value-item.result c.value.result at c.value.ensures in
    c.with_bit-word.ensures ∙ bits_from_more bits c.loop-i.i c.value.result (bits_of c.loop-i.word) got c.loop-i.invariant
