use Rattle.bp_code.proofs.Common.{rules, on_ok_weaker, regrouped}
use Rattle.bp_code.proofs.BlockItems.{sizes_length, whole_table}
use Rattle.bp_code.proofs.programs.emit_proc.Goals as goal

pub overflow_cast-end : goal.overflow_cast-end
overflow_cast-end c = search (rules, sizes_length)

pub overflow_add-end : goal.overflow_add-end
overflow_add-end c = search (rules, sizes_length)

pub emit_block-requires-clause-placed : goal.emit_block-requires-clause-placed
emit_block-requires-clause-placed c = search (rules, whole_table)

pub returns-clause-code : goal.returns-clause-code
returns-clause-code c = search (rules, sizes_length, on_ok_weaker, regrouped)
