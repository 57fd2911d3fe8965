use Rattle.bp_view.proofs.Common.{flat_map, take, Grown, bit_item}
use Rattle.bp_view.proofs.variables.push_bit_items.Given as goal

abbrev pub invariant-loop-bit : goal.invariant-loop-bit
invariant-loop-bit l = Grown l.fn.items l.items (flat_map bit_item (take l.bit-index l.bits))
