use Rattle.bp_code.proofs.Common.{◌≡◌, ◌+◌, ◌*◌, ◌++◌, length, drop, Branches, Loops, decision_of, block_of, statement_of, depth, statement_depth, environment_of, IsKnown, block_sizes, AreSizesOf, block_size, block_code}
use Rattle.bp_code.proofs.emit.+emit.Given as goal

abbrev pub invariant-emit_block-loop-i : goal.invariant-emit_block-loop-i
invariant-emit_block-loop-i l = record {
  room : length l.out.items + block_size (block_of (drop l.i l.stmts)) ≡ length l.fn.out.items + block_size (block_of l.stmts);
  known : IsKnown (environment_of l.environment) (block_of (drop l.i l.stmts));
  placed : AreSizesOf l.environment.layout (length l.out.items) (block_sizes (block_of (drop l.i l.stmts)));
  code : l.out.items
      ++ block_code (environment_of l.environment) (block_of (drop l.i l.stmts)) (length l.out.items) l.next
      ≡ l.fn.out.items ++ block_code (environment_of l.environment) (block_of l.stmts) (length l.fn.out.items) l.next;
}

abbrev pub decreases-emit_block : goal.decreases-emit_block
decreases-emit_block l = 3 * depth (block_of l.stmts.now) + 2

abbrev pub decreases-emit : goal.decreases-emit
decreases-emit l = 3 * statement_depth (statement_of l.form.now) + 1

abbrev pub decreases-emit_if : goal.decreases-emit_if
decreases-emit_if l = 3 * statement_depth (Branches (decision_of l.d.now) l.a.now l.b.now)

abbrev pub decreases-emit_while : goal.decreases-emit_while
decreases-emit_while l = 3 * statement_depth (Loops (decision_of l.d.now) l.body.now)
