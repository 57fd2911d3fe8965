use Rattle.bp_code.proofs.Common.{◌≡◌, ◌+◌, ◌*◌, ◌++◌, ℕ, List, length, drop, option_or, block_of, statement_of, depth, statement_depth, index_in, block_size, label_number, block_sizes}
use Rattle.bp_code.proofs.layout.+note.Given as goal

abbrev pub invariant-record_block-loop-stmt : goal.invariant-record_block-loop-stmt
invariant-record_block-loop-stmt l = record {
  room : length l.sizes.items + block_size (block_of (drop l.stmt-index l.stmts)) ≡ length l.fn.sizes.items + block_size (block_of l.stmts);
  sizes : l.sizes.items ++ block_sizes (block_of (drop l.stmt-index l.stmts)) ≡ l.fn.sizes.items ++ block_sizes (block_of l.stmts);
  labels : (text : List ℕ)
      → option_or (index_in l.labels text)
      (label_number (block_of (drop l.stmt-index l.stmts)) (l.start + length l.sizes.items) text)
      ≡ option_or (index_in l.fn.labels text) (label_number (block_of l.stmts) (l.start + length l.fn.sizes.items) text);
}

abbrev pub decreases-record_block : goal.decreases-record_block
decreases-record_block l = 3 * depth (block_of l.stmts.now) + 2

abbrev pub decreases-note : goal.decreases-note
decreases-note l = 3 * statement_depth (statement_of l.stmt.now.form) + 1

abbrev pub decreases-record_inside : goal.decreases-record_inside
decreases-record_inside l = 3 * statement_depth (statement_of l.form.now)
