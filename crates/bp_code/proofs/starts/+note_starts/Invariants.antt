use Rattle.bp_code.proofs.Common.{◌≡◌, ◌+◌, ◌*◌, ◌++◌, drop, block_of, statement_of, depth, statement_depth, block_starts}
use Rattle.bp_code.proofs.starts.+note_starts.Given as goal

abbrev pub invariant-record_block-loop-stmt : goal.invariant-record_block-loop-stmt
invariant-record_block-loop-stmt l =
    l.starts.items ++ block_starts (block_of (drop l.stmt-index l.stmts)) ≡ l.fn.starts.items ++ block_starts (block_of l.stmts)

abbrev pub decreases-record_block : goal.decreases-record_block
decreases-record_block l = 2 * depth (block_of l.stmts.now) + 1

abbrev pub decreases-record_inside : goal.decreases-record_inside
decreases-record_inside l = 2 * statement_depth (statement_of l.form.now)
