use Rattle.bp_test.proofs.Common.{◌≡◌, length, None, ap, sym, ◌∙◌, subst, arith, IsLeastWithin, granted_calls, granted_threads, live_threads, IsLegal, outcome_of, SetupOf, IsInRange, setup_error, IsEnd}
use Rattle.bp_test.proofs.ShrunkHistories.{no_error, fewer_calls, granted_again, same_outcome, granted_legal, granted_end, granted_same}
use Rattle.bp_test.proofs.shrinks.used.Goals as goal

-- a legal history uses no more contexts than its setup allows
pub with_contexts-requires : goal.with_contexts-requires
with_contexts-requires c =
    let s = c.args.setup.now in
    let best = c.args.search.now.best in
    let driven = c.requires.driven in
    driven.report.contexts.least s.contexts (c.steps_are_within.ensures c.args.code.now.tree s best.history.items driven.legal)

pub returns : goal.returns
returns c =
    let t = c.args.code.now.tree in
    let s = c.args.setup.now in
    let best = c.args.search.now.best in
    let h = best.history.items in
    let driven = c.requires.driven in
    let fits = c.requires.fits in
    let k = best.report.contexts in
    let end = c.args.search.now.end in
    let each = c.runs_are_histories.ensures.each in
    let back = c.runs_are_histories.ensures.back in
    let within = driven.report.contexts.within in
    let setup = c.in_ok-setup.ensures in
    let items : c.in_ok-history.history.items ≡ granted_calls h = c.in_ok-history.ensures ∙ ap granted_calls c.as_slice.ensures.value in
    let own : SetupOf = c.in_ok-setup.setup in
    record {
      setup = setup;
      fine =
          subst (λ x. setup_error t x ≡ None) (sym setup)
          (no_error t _ (record { entries = fits.entries; init = fits.init }) (subst IsInRange setup c.is_in_range.ensures));
      legal =
          subst (λ g. IsLegal t own g) (sym items)
          (subst (λ x. IsLegal t x (granted_calls h)) (sym setup) (granted_legal t s k h each back driven.legal within));
      report = record {
        outcome = driven.report.outcome ∙ sym (ap outcome_of items ∙ same_outcome h);
        calls = ap length c.as_slice-calls.ensures.value;
        left_live = c.live_threads.ensures ∙ ap (live_threads own) c.as_slice-calls.ensures.value;
        contexts =
            subst (λ g. IsLeastWithin k (granted_threads g)) (sym items)
            (subst (λ ts. IsLeastWithin k ts) (sym (granted_same t s k h each back driven.legal within)) driven.report.contexts);
      };
      steps = ap granted_calls items ∙ granted_again h ∙ sym items;
      outcome = ap outcome_of items ∙ same_outcome h;
      ends =
          subst (λ g. IsEnd t own g end) (sym items) (subst (λ x. IsEnd t x (granted_calls h) end) (sym setup)
          (granted_end t s k h each back driven.legal within end driven.ends));
      calls = let few = fewer_calls h in let sized = ap length items in omega (arith, few, sized);
      contexts = λ n whole. driven.report.contexts.least n whole.within;
    }
