use Rattle.bp_explore.proofs.Common.{◌≡◌, ◌<◌, ◌++◌, ◌+◌, ◌∷◌, [], true, false, get_or, take, ap, sym, ◌∙◌, subst, arith, rules, take_more, bits_of, Flat, valuation_of, Call, Stopped, configuration_after, granted_calls, IsAllowed, is_granted, Stands, SetupOf, SeenStep, IsPlayedTo, IsTopOrNone, ShowsStep}
use Rattle.bp_machine.proofs.SetupInRange.{stands_of}
use Rattle.bp_explore.proofs.PlayedRuns.{granted_more}
use Rattle.bp_explore.proofs.MadeSteps.{played_none, played_more}
use Rattle.bp_explore.proofs.found_runs.play.Goals as goal

pub loop-call-init : goal.loop-call-init
loop-call-init g c = search (rules, played_none)

pub loop-call-preserved : goal.loop-call-preserved
loop-call-preserved g c =
    let o = g.O.Observer.listed c.args.observer.now in
    let xs = c.args.calls.now in
    let i = c.loop-call.call-index in
    let h = take i xs in
    let x = c.in-Ok.answer in
    let s = c.loop-call.session.setup in
    let new = c.ask_with.new.self in
    let kept = c.ask_with.ensures.kept in
    let none : Call = record { thread = 0; bit = false; reply = Stopped } in
    let asked = c.in-Ok.ensures.asked in
    let step = c.is_same_step.ensures c.if-not-is_same_step.false in
    let same : x ≡ get_or xs i none = λ j. record { thread = asked.0 j; bit = asked.1 j; reply = step.0 j } in
    let more : take (i + 1) xs ≡ h ++ x ∷ [] = take_more xs i none c.loop-call-test.true ∙ ap (λ y. h ++ y ∷ []) (sym same) in
    let granted : is_granted x.reply ≡ true = ap is_granted step.0 ∙ step.1 in
    let thread = (get_or xs i none).thread in
    let seen : SeenStep = record {
      thread = thread;
      before = c.top-before.result;
      after = c.top.result;
      globals = c.globals.result;
      failed = c.is_failed.result;
    } in
    let t = c.loop-call.session.code.tree in
    let stood = c.loop-call.invariant.stands in
    let stands = c.in-Ok.ensures.stands h stood in
    let after = stands_of (sym kept.0) stands in
    let allowed : IsAllowed t s h x = (c.in-Ok.ensures.answer h stood).allowed in
    let few : c.loop-call.made < o.count = omega (arith, c.if-made-count.false, c.count.ensures) in
    record {
      stands = subst (Stands new.code.tree new) (sym more) after;
      made = λ own.
          let was = subst (λ (k : Flat). o.is_of k.tree) kept.0 own in
          let shows : ShowsStep t seen (configuration_after t s h) (configuration_after t s (h ++ x ∷ [])) = record {
            before = c.top-before.ensures h stood;
            after = subst (λ (z : SetupOf). IsTopOrNone t (configuration_after t z (h ++ x ∷ [])) thread c.top.result) kept.1
                (subst (λ (k : Flat). IsTopOrNone k.tree (configuration_after k.tree new.setup (h ++ x ∷ [])) thread c.top.result) kept.0
                (c.top.ensures (h ++ x ∷ []) after));
            globals = subst (λ (z : SetupOf). (configuration_after t z (h ++ x ∷ [])).globals ≡ valuation_of t.globals (bits_of c.globals.result)) kept.1
                (c.globals.ensures t (h ++ x ∷ []) stands);
            failed = subst (λ (z : SetupOf). (configuration_after t z (h ++ x ∷ [])).failed ≡ c.is_failed.result) kept.1
                (sym (c.is_failed.ensures t (h ++ x ∷ []) stands));
          } in
          subst (λ l. IsPlayedTo new.code.tree new.setup o l c.made_with-made.result) (sym more)
          (subst (λ (k : Flat). IsPlayedTo k.tree new.setup o (h ++ x ∷ []) c.made_with-made.result) (sym kept.0)
          (subst (λ (z : SetupOf). IsPlayedTo t z o (h ++ x ∷ []) c.made_with-made.result) (sym kept.1)
          (played_more t s o was h x allowed granted c.loop-call.made c.made_with-made.result few (c.loop-call.invariant.made was) seen (sym asked.0) shows
          (c.made_with-made.ensures.counted few))));
      granted = subst (λ l. granted_calls l ≡ l) (sym more) (granted_more h x c.loop-call.invariant.granted granted);
      code = kept.0 ∙ c.loop-call.invariant.code;
      setup = kept.1 ∙ c.loop-call.invariant.setup;
    }
