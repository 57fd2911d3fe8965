use Rattle.bp_test.proofs.Common.{◌++◌, ◌∷◌, [], ◌∙◌, Some, refl, ap, sym, subst, arith, rules, length_push, SetupOf, made, setup_of_run, IsCleanRun, IsMadeRun, IsTally}
use Rattle.bp_test.proofs.FirstFound.{clean_one}
use Rattle.bp_test.proofs.RunsOfTests.{fits_again, reseeded, made_run, clean_by_report, reaches_is, key_is, sought_by_report, waits_there, fails_there}
use Rattle.bp_test.proofs.TallyLemmas.{same_counts, tally_run}
use Rattle.bp_test.proofs.batches.first_found.Given.{Over}
use Rattle.bp_test.proofs.batches.first_found.Goals.{In_ok-add_run}
use Rattle.bp_test.proofs.batches.first_found.Goals as goal

pub run_once-requires : goal.run_once-requires
run_once-requires g c = search (rules, fits_again)

pub loop-run-init : goal.loop-run-init
loop-run-init g c = record {
  code = c.in_ok-session.ensures.kept.0;
  setup = λ n. ap {A = SetupOf} (λ y. record y { seed = Some n }) c.in_ok-session.ensures.kept.1;
  earlier = [];
  count = omega arith;
  ahead = omega arith;
  clean = tt;
  tallied = c.in_ok-tally.ensures;
}

-- the run of this turn
this_run : (g : Over) (c : In_ok-add_run g)
    → IsMadeRun c.args.code.now.tree (setup_of_run c.args.setup.now c.args.plan.now.seed c.loop-run.run)
    (made c.run_once.new.history.items c.report-report.result c.is_deadlocked-is_deadlocked.result c.have_returned-has_returned.result)
this_run g c =
    let now = c.in_ok-followed.ensures in
    rw (now.code ∙ c.loop-run.invariant.code) at (made_run c.args.setup.now c.args.plan.now.with_deadlock c.args.plan.now.seed
    c.loop-run.run c.loop-run.session c.run_once.new.session c.run_once.new.history.items _ refl c.loop-run.invariant.setup now.setup
    now.stands now.over c.report-report.result (c.report-report.ensures _)
    c.is_deadlocked-is_deadlocked.result c.is_deadlocked-is_deadlocked.ensures
    c.have_returned-has_returned.result c.have_returned-has_returned.ensures)

-- the tally after it
tallied_now : (g : Over) (c : In_ok-add_run g)
    → IsTally c.args.code.now.tree c.args.setup.now
    (c.loop-run.invariant.earlier ++ made c.run_once.new.history.items c.report-report.result c.is_deadlocked-is_deadlocked.result c.have_returned-has_returned.result ∷ [])
    c.add_run.new.self
tallied_now g c =
    let before = c.loop-run.invariant in
    let now = c.in_ok-followed in
    let same = now.ensures.code ∙ before.code in
    let run = made c.run_once.new.history.items c.report-report.result c.is_deadlocked-is_deadlocked.result c.have_returned-has_returned.result in
    tally_run c.args.code.now.tree c.args.setup.now before.earlier run c.loop-run.tally c.add_run.new.self c.run_once.new.reached.items _ before.tallied
    (rw same at (key_is c.args.setup.now c.args.plan.now.with_deadlock c.args.plan.now.seed c.loop-run.run
    c.loop-run.session c.run_once.new.session c.run_once.new.history.items _ refl before.setup now.ensures.setup _ now.ensures.key))
    c.in_ok-add_run.ensures.keys
    (rw same at (reaches_is c.args.setup.now c.args.plan.now.with_deadlock c.args.plan.now.seed c.loop-run.run
    c.loop-run.session c.run_once.new.session c.run_once.new.history.items _ refl before.setup now.ensures.setup c.loop-run.tally.reached.items c.run_once.new.reached.items now.ensures.marks))
    c.in_ok-add_run.ensures.reached
    (rw c.as_slice.ensures.value at (c.in_ok-add_run.ensures.counted c.args.setup.now before.earlier
    (same_counts c.args.setup.now before.earlier c.loop-run.tally _ refl refl refl refl refl refl
    before.tallied.counted)))

pub returns-then-is_sought-clause-tallied : goal.returns-then-is_sought-clause-tallied
returns-then-is_sought-clause-tallied g c =
    let d = (goal.at.returns-then-is_sought-clause-tallied g c).In_ok-add_run in
    let before = c.loop-run.invariant in
    let now = c.in_ok-followed in
    let same = now.ensures.code ∙ before.code in
    record {
      runs = before.earlier ++ made c.run_once.new.history.items c.report-report.result c.is_deadlocked-is_deadlocked.result c.have_returned-has_returned.result ∷ [];
      first = record {
        others = before.earlier;
        deadlocked = c.is_deadlocked-is_deadlocked.result;
        returned = c.have_returned-has_returned.result;
        whole = refl;
        number = let count = before.count in let after = c.loop-run.auto.run in omega (arith, count, after);
        below = omega arith;
        clean = before.clean;
        found = sought_by_report _ _ c.args.plan.now.with_deadlock _ _ _ _ (this_run g d) (sym c.is_sought.ensures ∙ c.if-is_sought.true);
        at =
            rw same at (fails_there c.args.setup.now c.args.plan.now.with_deadlock c.args.plan.now.seed
            c.loop-run.run c.loop-run.session c.run_once.new.session c.run_once.new.history.items _ refl before.setup
            now.ensures.setup
            now.ensures.stands c.failed_instruction-number.result c.failed_instruction-number.ensures.at c.failed_instruction-number.ensures.none);
        waiting =
            rw same at (waits_there c.args.setup.now c.args.plan.now.with_deadlock c.args.plan.now.seed
            c.loop-run.run c.loop-run.session c.run_once.new.session c.run_once.new.history.items _ refl before.setup
            now.ensures.setup
            now.ensures.stands c.in_ok-waiting.waiting.items c.in_ok-waiting.ensures);
      };
      tallied = tallied_now g d;
    }

pub loop-run-preserved : goal.loop-run-preserved
loop-run-preserved g c =
    let d = (goal.at.loop-run-preserved g c).In_ok-add_run in
    let before = c.loop-run.invariant in
    let now = c.in_ok-followed in
    let run = made c.run_once.new.history.items c.report-report.result c.is_deadlocked-is_deadlocked.result c.have_returned-has_returned.result in
    let count = before.count in
    let after = c.loop-run.auto.run in
    record {
      code = now.ensures.code ∙ before.code;
      setup = reseeded c.args.setup.now c.loop-run.session c.run_once.new.session _ before.setup now.ensures.setup;
      earlier = before.earlier ++ run ∷ [];
      count = rw length_push (omega (arith, count, after));
      ahead = let within = c.loop-run-test.true in omega (arith, within);
      clean = clean_one c.args.code.now.tree c.args.setup.now c.args.plan.now.with_deadlock c.args.plan.now.seed c.args.from before.earlier run before.clean
          (subst (λ n. IsCleanRun c.args.code.now.tree (setup_of_run c.args.setup.now c.args.plan.now.seed n) c.args.plan.now.with_deadlock run) (omega (arith, count, after))
          (clean_by_report _ _ c.args.plan.now.with_deadlock _ _ _ _ (this_run g d) (sym c.is_sought.ensures ∙ c.if-is_sought.false)));
      tallied = tallied_now g d;
    }
