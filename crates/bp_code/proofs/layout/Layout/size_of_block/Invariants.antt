use Rattle.bp_code.proofs.Common.{◌≡◌, ◌+◌, drop, block_of, block_size, block_sizes, AreSizesOf}
use Rattle.bp_code.proofs.layout.Layout.size_of_block.Given as goal

abbrev pub invariant-loop-stmt : goal.invariant-loop-stmt
invariant-loop-stmt l = record {
  total : l.total + block_size (block_of (drop l._stmt-index l.stmts)) ≡ block_size (block_of l.stmts);
  placed : AreSizesOf l.self (l.number + l.total) (block_sizes (block_of (drop l._stmt-index l.stmts)));
}
