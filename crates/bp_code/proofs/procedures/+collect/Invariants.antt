use Rattle.bp_code.proofs.Common.{◌≡◌, ◌+◌, ◌*◌, ◌++◌, take, block_of, statement_of, depth, statement_depth, statements, all_labelled}
use Rattle.bp_code.proofs.procedures.+collect.Given as goal

abbrev pub invariant-collect-loop-stmt : goal.invariant-collect-loop-stmt
invariant-collect-loop-stmt l = all_labelled l.out.items ≡ all_labelled l.initial.out.items ++ statements (block_of (take l.stmt-index l.stmts))

abbrev pub decreases-collect : goal.decreases-collect
decreases-collect l = 2 * depth (block_of l.stmts.now) + 1

abbrev pub decreases-collect_inside : goal.decreases-collect_inside
decreases-collect_inside l = 2 * statement_depth (statement_of l.form.now)
