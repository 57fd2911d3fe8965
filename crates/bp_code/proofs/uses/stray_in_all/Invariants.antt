use Rattle.bp_code.proofs.Common.{map, take, expression_of, SomeUses, Finds, IsStray}
use Rattle.bp_code.proofs.uses.stray_in_all.Given as goal

abbrev pub invariant-loop-expr : goal.invariant-loop-expr
invariant-loop-expr l = Finds (IsStray l.declared (SomeUses (map expression_of (take l.expr-index l.exprs)))) l.best
