use Rattle.bp_confirm.proofs.Common.{rules, ◌≡◌, ◌∙◌, vec_len, Some, drop, length, map, replicate, ap, sym, refl, subst, arith, slice_get, length-set, drop_of_length-le, location_in, next_location, next_locations}
use Rattle.bp_confirm.proofs.NextLocations.{none_yet, table_next, done_next}
use Rattle.bp_confirm.proofs.step_lines.next_steps.Goals as goal

pub loop-n-init : goal.loop-n-init
loop-n-init c =
    let lines = c.args.lines.now in
    let size : length c.in_ok-steps.steps.items ≡ vec_len c.in_ok-steps.steps = search rules in
    let count = c.len-count.ensures in
    let many = size ∙ c.in_ok-steps.ensures.len ∙ count in
    record {
      within = omega (arith, count);
      size = refl;
      each = λ i few.
          subst (λ k. slice_get (map (location_in lines) (replicate 64 k)) i ≡ Some (next_location i (drop k lines))) (sym count) (none_yet 64 i lines few);
      many = many;
      done = ap (map (location_in lines)) (drop_of_length-le c.in_ok-steps.steps.items (omega (arith, many, count)))
          ∙ sym (ap next_locations (drop_of_length-le lines (omega (arith, count))));
    }

pub loop-n-preserved : goal.loop-n-preserved
loop-n-preserved c = search (rules, length-set, table_next, done_next)
