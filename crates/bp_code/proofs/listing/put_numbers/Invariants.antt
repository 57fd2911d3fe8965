use Rattle.bp_code.proofs.Common.{flat_map, take, number_field}
use Rattle.bp_text.specs.Writing.{Given}
use Rattle.bp_code.proofs.listing.put_numbers.Given as goal

abbrev pub invariant-loop-number : goal.invariant-loop-number
invariant-loop-number g l =
    Given g.W.Write.contents l.fn.sink l.sink (flat_map number_field (take l.number-index l.numbers))
