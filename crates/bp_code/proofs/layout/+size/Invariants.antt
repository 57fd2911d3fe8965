use Rattle.bp_code.proofs.Common.{◌≡◌, ◌+◌, ◌*◌, drop, block_of, statement_of, depth, statement_depth, block_size}
use Rattle.bp_code.proofs.layout.+size.Given as goal

abbrev pub invariant-size_of_block-loop-stmt : goal.invariant-size_of_block-loop-stmt
invariant-size_of_block-loop-stmt l = l.total + block_size (block_of (drop l.stmt-index l.stmts)) ≡ block_size (block_of l.stmts)

abbrev pub decreases-size_of_block : goal.decreases-size_of_block
decreases-size_of_block l = 2 * depth (block_of l.stmts.now) + 1

abbrev pub decreases-size_of : goal.decreases-size_of
decreases-size_of l = 2 * statement_depth (statement_of l.form.now)
