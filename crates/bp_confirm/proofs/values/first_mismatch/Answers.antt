use Rattle.bp_confirm.proofs.Common.{◌∙◌, ap, sym, option_map, rules, value_of, values_in}
use Rattle.bp_confirm.proofs.StepsFollowed.{sees_more}
use Rattle.bp_confirm.proofs.ReadLines.{all_read, one_more_read, value_there}
use Rattle.bp_confirm.proofs.values.first_mismatch.Goals as goal

pub returns-then-not-is_value : goal.returns-then-not-is_value
returns-then-not-is_value c =
    let there = value_there c.loop-value.invariant.read c.in-Some.ensures in
    record {
      name = ap (option_map (λ x. x.0)) there;
      first = λ text now i are shown. record {
        value = value_of c.in-Some.value;
        at = there;
        first = c.loop-value.invariant.sees text now i are shown;
        is_seen = c.value_at_top-seen.ensures text now i are shown;
        differs = λ e. let same = c.is_value.ensures.1 e in absurd (cc (same, c.if-not-is_value.true));
      };
    }

pub loop-value-preserved : goal.loop-value-preserved
loop-value-preserved c = record {
  read = one_more_read c.loop-value.invariant.read c.in-Some.ensures;
  sees = λ text now i are shown.
      let seen = c.value_at_top-seen.ensures text now i are shown in
      sees_more now i (value_of c.in-Some.value) (values_in c.args.values.now) c.loop-value.place (value_there c.loop-value.invariant.read c.in-Some.ensures)
      (c.loop-value.invariant.sees text now i are shown) (sym seen ∙ c.is_value.ensures.0 c.if-not-is_value.false);
}

pub returns : goal.returns
returns c = search (rules, all_read)
