use Rattle.bp_confirm.proofs.Common.{◌≡◌, ◌+◌, Some, suc, arith, drop, subst, sym, AreAll, next_value, no_next, value_of, value, values_in}
use Rattle.std.specs.Prelude.{slice_get}
use Rattle.bp_confirm.proofs.kept_lines.value_at_place.Goals as goal

pub returns-in_default : goal.returns-in_default
returns-in_default c = sym (no_next (values_in c.args.values.now) c.loop-before._before c.args.place c.loop-before.invariant.all c.in_default.ensures c.loop-before.invariant.few)

pub loop-before-preserved : goal.loop-before-preserved
loop-before-preserved c =
    let next = next_value (values_in c.args.values.now) c.loop-before._before c.loop-before.invariant.all c.in-Some.ensures in
    let one : suc c.loop-before._before ≡ c.loop-before._before + 1 = omega arith in
    record {
      few = omega (arith, c.loop-before-test.true);
      all = subst (λ k. AreAll value c.in-Some.more.now (drop k (values_in c.args.values.now))) one next.rest;
    }

pub returns-in-None : goal.returns-in-None
returns-in-None c = sym (no_next (values_in c.args.values.now) c.loop-before._before c.args.place c.loop-before.invariant.all c.in-None.ensures c.loop-before.invariant.few)

pub returns-in-Some-value_at : goal.returns-in-Some-value_at
returns-in-Some-value_at c =
    let next = next_value (values_in c.args.values.now) c.loop-before._before c.loop-before.invariant.all c.in-Some-value_at.ensures in
    let number : c.loop-before._before ≡ c.args.place = omega (arith, c.loop-before-test.false, c.loop-before.invariant.few) in
    sym (subst (λ k. slice_get (values_in c.args.values.now) k ≡ Some (value_of c.in-Some-value_at.value)) number next.at)
