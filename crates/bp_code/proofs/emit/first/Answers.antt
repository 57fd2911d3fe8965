use Rattle.bp_code.proofs.Common.{◌<◌, length, ap, ◌∙◌, arith, nat_tests, block_entry}
use Rattle.bp_code.proofs.BlockItems.{first_within}
use Rattle.bp_code.proofs.emit.first.Goals as goal

pub returns-else-is_empty : goal.returns-else-is_empty
returns-else-is_empty c =
    let some : 0 < length c.as_slice.result.now = grind (arith, nat_tests, c.if-is_empty.ensures) in
    first_within c.as_slice.result.now 0 c.args.at c.args.next some ∙ ap (λ b. block_entry b c.args.at c.args.next) c.as_slice.ensures
