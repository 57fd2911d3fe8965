use Rattle.bp_confirm.proofs.Common.{◌≡◌, ◌+◌, ◌-◌, Some, suc, arith, drop, subst, sym, AreAll, next_value, no_next, step_line}
use Rattle.std.specs.Prelude.{slice_get}
use Rattle.bp_confirm.proofs.kept_lines.step_on_line.Goals as goal

pub returns-in_default : goal.returns-in_default
returns-in_default c = λ lines all.
    sym (no_next lines (c.loop-before._before - 1) (c.args.line - 1) (c.loop-before.invariant.all lines all) c.in_default.ensures c.loop-before.invariant.few)

pub loop-before-preserved : goal.loop-before-preserved
loop-before-preserved c = record {
  few = omega (arith, c.loop-before-test.true, c.loop-before.auto._before);
  all = λ lines all.
      let next = next_value lines (c.loop-before._before - 1) (c.loop-before.invariant.all lines all) c.in-Some.ensures in
      let one : suc (c.loop-before._before - 1) ≡ c.loop-before._before + 1 - 1 = omega (arith, c.loop-before.auto._before) in
      subst (λ k. AreAll step_line c.in-Some.more.now (drop k lines)) one next.rest;
}

pub returns-in-None : goal.returns-in-None
returns-in-None c = λ lines all.
    sym (no_next lines (c.loop-before._before - 1) (c.args.line - 1) (c.loop-before.invariant.all lines all) c.in-None.ensures c.loop-before.invariant.few)

pub returns-in-Some-step_at : goal.returns-in-Some-step_at
returns-in-Some-step_at c = λ lines all.
    let next = next_value lines (c.loop-before._before - 1) (c.loop-before.invariant.all lines all) c.in-Some-step_at.ensures in
    let number : c.loop-before._before - 1 ≡ c.args.line - 1 = omega (arith, c.loop-before-test.false, c.loop-before.invariant.few) in
    sym (subst (λ k. slice_get lines k ≡ Some c.in-Some-step_at.step) number next.at)
