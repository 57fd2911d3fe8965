-- The additions of a run to a test.
use Rattle.bp_test.proofs.Common.{◌≡◌, ℕ, ◌+◌, ◌%◌, ◌^◌, Bool, true, false, ◌||◌, ◌&&◌, List, Option, Some, IfSome, refl, ap, sym, ◌∙◌, subst, IfNone, IsTrue, MatchOption, ◌↔◌, arith, rules, Program, Flat, Call, Clean, Report, IsDeadlocked, configuration_after, outcome_of, is_failure, IsReport, SetupOf, threads, Fits, SessionOf, Stands, FailsAt, HaveReturned, IsOver, is_sought, setup_of_run, IsSought, IsMadeRun, IsCleanRun, IsSoughtRun, Wait, IsRunKey, place_of, MarksGrow, Reaches, AreWaiting, made, Waiting}
use Rattle.bp_machine.proofs.RealFailures.{within as within_contexts}
use Rattle.bp_test.proofs.TallyLemmas.{run_key_without}
use Rattle.bp_test.proofs.MarkLemmas.{same_marks}
use Rattle.bp_test.proofs.ReachedPlaces.{reaches_with, reaches_without}

-- the setups differ at most in their seeds
abbrev pub IsReseeded : SetupOf → SetupOf → Type 0
IsReseeded x s = (n : ℕ) → record x { seed = Some n } ≡ record s { seed = Some n }

pub fits_again : (c d : Flat) (x s : SetupOf) → d ≡ c → IsReseeded x s → Fits c.tree s → Fits d.tree x
fits_again c d x s code same fits =
    let seeded = subst (Fits c.tree) (sym (same 0)) (record { entries = fits.entries; init = fits.init }) in
    subst (λ e. Fits e.tree x) (sym code) (record { entries = seeded.entries; init = seeded.init })

pub reseeded : (s : SetupOf) (old x : SessionOf) (own : ℕ) → IsReseeded old.setup s → x.setup ≡ record old.setup { seed = Some own } → IsReseeded x.setup s
reseeded s old x own setup_was setup n =
    let again : record x.setup { seed = Some n } ≡ record old.setup { seed = Some n } =
    ap {A = SetupOf} (λ y. record y { seed = Some n }) setup in
    again ∙ setup_was n

-- a history that is over, by its report and whether there is a deadlock
module _ (t : Program) (s : SetupOf) (with_deadlock : Bool) (h : List Call) (r : Report) (d ended : Bool) (run : IsMadeRun t s (made h r d ended)) where
  looked_for : (w f e : Bool) → f ≡ is_failure r.outcome → w ≡ with_deadlock → e ≡ d → (f || (w && e)) ≡ true → IsSought t s with_deadlock h
  looked_for w f e given1 given2 given3 given4 = grind (arith)

  pub sought_by_report : is_sought with_deadlock r d ≡ true → IsSoughtRun t s with_deadlock (made h r d ended)
  sought_by_report e = record { made = run; sought = looked_for with_deadlock (is_failure r.outcome) d refl refl refl e }

  pub clean_by_report : is_sought with_deadlock r d ≡ false → IsCleanRun t s with_deadlock (made h r d ended)
  clean_by_report given1 = grind (arith)

-- a run after those that are not looked for
module _ (s : SetupOf) (with_deadlock : Bool) (seed run : ℕ) (old x : SessionOf) (h : List Call) (own : ℕ) (own_is : own ≡ (seed + run) % 2 ^ 64)
    (setup_was : IsReseeded old.setup s) (setup : x.setup ≡ record old.setup { seed = Some own }) where
  abbrev t : Program
  t = x.code.tree

  setup_is : x.setup ≡ setup_of_run s seed run
  setup_is = let last : record s { seed = Some own } ≡ setup_of_run s seed run = ap (λ n. setup_with n) own_is in setup ∙ setup_was own ∙ last
    where
      setup_with : ℕ → SetupOf
      setup_with n = record s { seed = Some n }

  module _ (stands : Stands t x h) (over : IsOver t x.setup h) (r : Report)
      (counted : (g : List Call) → Stands t x g → IsReport x.setup g r)
      (d : Bool) (told : (g : List Call) → Stands t x g → IsTrue d ↔ IsDeadlocked t (configuration_after t x.setup g))
      (ended : Bool) (returns : (g : List Call) → Stands t x g → IsTrue ended ↔ HaveReturned (configuration_after t x.setup g) (threads x.setup)) where
    pub made_run : IsMadeRun t (setup_of_run s seed run) (made h r d ended)
    made_run = search (rules, setup_is, within_contexts)

  -- the places that it reaches
  pub reaches_is : (marks new : List Bool) → MarksGrow (place_of t) (Reaches t x.setup h) marks new → MarksGrow (place_of t) (Reaches t s h) marks new
  reaches_is marks new grow =
      let own = subst (λ z. MarksGrow (place_of t) (Reaches t z h) marks new) setup_is grow in
      let seed_is : Option ℕ = Some ((seed + run) % 2 ^ 64) in
      same_marks (place_of t) (Reaches t (setup_of_run s seed run) h) (Reaches t s h) marks new own
      (λ x. reaches_with t s seed_is x h) (λ x. reaches_without t s seed_is x h)

  -- and its key
  pub key_is : (key : ℕ) → IsRunKey t x.setup h key → IsRunKey t s h key
  key_is key keyed = run_key_without t s (Some ((seed + run) % 2 ^ 64)) h key (subst (λ z. IsRunKey t z h key) setup_is keyed)

  fails_at : Stands t x h → (number : Option ℕ) → ((g : List Call) → Stands t x g → IfSome number (FailsAt t x.setup g))
      → IfSome number (FailsAt t (setup_of_run s seed run) h)
  fails_at stands number fails = subst (λ z. IfSome number (FailsAt t z h)) setup_is (fails h stands)

  -- and who waits
  pub waits_there : Stands t x h → (xs : List Waiting)
      → ((g : List Call) → Stands t x g → AreWaiting t (configuration_after t x.setup g) (threads x.setup) xs)
      → Wait t (setup_of_run s seed run) h xs
  waits_there stands xs waiting = subst (λ z. Wait t z h xs) setup_is (waiting h stands)

  -- and the place of that
  pub fails_there : Stands t x h → (number : Option ℕ) → ((g : List Call) → Stands t x g → IfSome number (FailsAt t x.setup g))
      → ((g : List Call) → Stands t x g → IfNone number (outcome_of g ≡ Clean))
      → MatchOption number (outcome_of h ≡ Clean) (FailsAt t (setup_of_run s seed run) h)
  fails_there given1 number given2 given3 = search (rules, fails_at)
