use Rattle.bp_code.proofs.Common.{common_steps, arith, rules, all_labelled}
use Rattle.bp_code.proofs.ErrorsOfParts.{collect_more, inside_depth}
use Rattle.bp_code.proofs.procedures.+collect.Goals as goal

pub collect-collect_inside-requires : goal.collect-collect_inside-requires
collect-collect_inside-requires t c = search (rules, inside_depth)

pub collect-loop-stmt-preserved : goal.collect-loop-stmt-preserved
collect-loop-stmt-preserved t c =
    collect_more (all_labelled c.args.out.now.items) _ _ _ _ c.args.stmts.now c.loop-stmt.stmt-index
    c.loop-stmt-test.true c.stmt-item.is c.loop-stmt.invariant c.in_ok-push.ensures.items
    (rw c.form.ensures at c.in_ok-collect_inside.ensures)

pub collect-returns : goal.collect-returns
collect-returns t c = grind (arith, common_steps)

pub collect_inside-returns-in_ok-collect-in-If : goal.collect_inside-returns-in_ok-collect-in-If
collect_inside-returns-in_ok-collect-in-If t c = grind (arith, common_steps)
