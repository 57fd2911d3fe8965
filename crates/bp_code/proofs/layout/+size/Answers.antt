use Rattle.bp_code.proofs.Common.{common_steps, arith, rules}
use Rattle.bp_code.proofs.BlockItems.{block_item, item_depth}
use Rattle.bp_code.proofs.layout.+size.Goals as goal

pub size_of_block-size_of-total-requires : goal.size_of_block-size_of-total-requires
size_of_block-size_of-total-requires t c = search (rules, item_depth, block_item)

pub size_of_block-loop-stmt-preserved : goal.size_of_block-loop-stmt-preserved
size_of_block-loop-stmt-preserved t c = grind (arith, common_steps)

pub size_of_block-overflow_add-total : goal.size_of_block-overflow_add-total
size_of_block-overflow_add-total t c = grind (arith, common_steps)

pub size_of_block-returns : goal.size_of_block-returns
size_of_block-returns t c = grind (arith, common_steps)
