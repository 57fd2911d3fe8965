use Rattle.bp_code.proofs.Common.{common_steps, arith, rules}
use Rattle.bp_code.proofs.BlockItems.{item_depth, starts_more}
use Rattle.bp_code.proofs.starts.+note_starts.Goals as goal

pub record_block-record_inside-requires : goal.record_block-record_inside-requires
record_block-record_inside-requires t c = search (rules, item_depth)

pub record_block-loop-stmt-preserved : goal.record_block-loop-stmt-preserved
record_block-loop-stmt-preserved t c = grind (arith, common_steps, starts_more)

pub record_block-returns : goal.record_block-returns
record_block-returns t c = grind (arith, common_steps)

pub record_inside-returns-in_ok-record_block-in-If : goal.record_inside-returns-in_ok-record_block-in-If
record_inside-returns-in_ok-record_block-in-If t c = grind (arith, common_steps)
