use Rattle.bp_confirm.proofs.Common.{◌∙◌, sym, subst, AreDeclared, values_in}
use Rattle.bp_confirm.proofs.OneTextRefusal.{first_undeclared, declared_more}
use Rattle.bp_confirm.proofs.ReadLines.{all_read, one_more_read, value_there}
use Rattle.bp_confirm.proofs.declarations.undeclared_value.Goals as goal

pub returns-then-not-is_declared-clause-first : goal.returns-then-not-is_declared-clause-first
returns-then-not-is_declared-clause-first c =
    first_undeclared c.args.checked.now _ (values_in c.args.values.now) c.loop-value.n (value_there c.loop-value.invariant.read c.in-Some.ensures)
    c.loop-value.invariant.first (sym c.is_declared.ensures.is ∙ c.if-not-is_declared.true)

pub loop-value-preserved : goal.loop-value-preserved
loop-value-preserved c = record {
  read = one_more_read c.loop-value.invariant.read c.in-Some.ensures;
  known = c.is_declared.ensures.known;
  first =
      declared_more c.args.checked.now _ (values_in c.args.values.now) c.loop-value.n (value_there c.loop-value.invariant.read c.in-Some.ensures)
      c.loop-value.invariant.first (sym c.is_declared.ensures.is ∙ c.if-not-is_declared.false);
}

pub returns-clause-first : goal.returns-clause-first
returns-clause-first c = subst (AreDeclared c.args.checked.now) (all_read c.loop-value.invariant.read c.in_default.ensures) c.loop-value.invariant.first
