-- The result of a search for a smaller history.
use Rattle.bp_test.proofs.Common.{◌≡◌, ◌≤◌, ◌==◌, ℕ, false, length, refl, arith, Bool, true, cond, List, [], ◌∷◌, ap, sym, ◌∙◌, subst, ◌&&◌, zero, suc, ◌+◌, ◌++◌, None, map, rules, Program, Flat, SetupOf, setup_error, Fits, IsInRange, Call, Reply, IsBoundedRun, IsHistoryOfSteps, HasBoundedRun, IsWithin, configuration_after, granted_threads, granted_calls, IsLegal, is_granted, outcome_or, outcome_of, IsReport, is_terminated, live_below, IsLegalAfter, RunsAreHistories, HistoriesAreRuns, Report, Waiting, Wait, IsEnd, with_contexts, DeadlocksAt, unseeded, IsDriven, IsNoMore, IsShrunk, IsShrunkOf, IsSearch, GoesOn}
use Rattle.std.specs.Bool.{Decides}
use Rattle.bp_test.specs.declared.shrinks.HistoryEnd.{HistoryEnd}
use Rattle.bp_test.specs.declared.searches.Search.{Search}
use Rattle.bp_test.specs.declared.shrinks.Shrunk.{Shrunk}

-- A setup that fits its program has no error if its numbers are within their limits.

pub no_error : (t : Program) (s : SetupOf) → Fits t s → IsInRange s → setup_error t s ≡ None
no_error t s given1 given2 = grind (arith)

-- The granted attempts of a legal history are one as well, within as many contexts as they use.

threads_of : (h : List Call) → map (λ x. x.thread) (granted_calls h) ≡ granted_threads h
threads_of [] = refl
threads_of (x ∷ xs) = here (is_granted x.reply) (threads_of xs)
  where
    here : (b : Bool) → map (λ y. y.thread) (granted_calls xs) ≡ granted_threads xs
        → map (λ y. y.thread) (cond b (x ∷ granted_calls xs) (granted_calls xs)) ≡ cond b (x.thread ∷ granted_threads xs) (granted_threads xs)
    here true e = ap (λ ts. x.thread ∷ ts) e
    here false e = e

-- all granted attempts are granted
pub granted_again : (h : List Call) → granted_calls (granted_calls h) ≡ granted_calls h
granted_again [] = refl
granted_again (x ∷ xs) = here (is_granted x.reply) refl (granted_again xs)
  where
    here : (b : Bool) → is_granted x.reply ≡ b → granted_calls (granted_calls xs) ≡ granted_calls xs
        → granted_calls (cond b (x ∷ granted_calls xs) (granted_calls xs)) ≡ cond b (x ∷ granted_calls xs) (granted_calls xs)
    here true is e = ap (λ b. cond b (x ∷ granted_calls (granted_calls xs)) (granted_calls (granted_calls xs))) is ∙ ap (λ zs. x ∷ zs) e
    here false is e = e

pub fewer_calls : (h : List Call) → length (granted_calls h) ≤ length h
fewer_calls [] = omega arith
fewer_calls (x ∷ xs) = here (is_granted x.reply) (fewer_calls xs)
  where
    here : (b : Bool) → length (granted_calls xs) ≤ length xs → length (cond b (x ∷ granted_calls xs) (granted_calls xs)) ≤ length (x ∷ xs)
    here true few = omega (arith, few)
    here false few = omega (arith, few)

pub same_outcome : (h : List Call) → outcome_of (granted_calls h) ≡ outcome_of h
same_outcome [] = refl
same_outcome (x ∷ xs) = inside (is_granted x.reply) ∙ by_reply x.reply (same_outcome xs)
  where
    inside : (b : Bool)
        → outcome_of (cond b (x ∷ granted_calls xs) (granted_calls xs))
        ≡ cond b (outcome_or x x.reply (outcome_of (granted_calls xs))) (outcome_of (granted_calls xs))
    inside true = refl
    inside false = refl

    by_reply : (r : Reply) → outcome_of (granted_calls xs) ≡ outcome_of xs
        → cond (is_granted r) (outcome_or x r (outcome_of (granted_calls xs))) (outcome_of (granted_calls xs)) ≡ outcome_or x r (outcome_of xs)
    by_reply r given1 = grind (arith)

module _ (t : Program) (s : SetupOf) (k : ℕ) (h : List Call) (each : RunsAreHistories) (back : HistoriesAreRuns) (legal : IsLegal t s h) where
  own : HasBoundedRun t s h
  own = back t s h legal

  module _ (within : IsWithin k (granted_threads h)) where
    bounded : IsBoundedRun t (with_contexts s k) (granted_calls h) (configuration_after t s h)
    bounded = search (rules, own, threads_of)

    made : IsHistoryOfSteps t (with_contexts s k) (granted_calls h) (configuration_after t s h)
    made = search (rules, own, bounded)

    pub granted_legal : IsLegal t (with_contexts s k) (granted_calls h)
    granted_legal = made.legal

    pub granted_end : (end : HistoryEnd) → IsEnd t s h end → IsEnd t (with_contexts s k) (granted_calls h) end
    granted_end end given1 = search (rules, same_outcome, made)

    pub granted_same : granted_threads (granted_calls h) ≡ granted_threads h
    granted_same = sym (threads_of (granted_calls h)) ∙ ap (λ g. map (λ (x : Call). x.thread) g) made.granted ∙ threads_of h

-- Threads that wait are compared by their numbers, and a deadlock by those that wait in it.

pub waits_Decides : (a b : Waiting) → Decides ((a.thread == b.thread) && (a.number == b.number)) (a ≡ b)
waits_Decides a b = grind (arith)

pub same_waits : (t : Program) (s : SetupOf) (h : List Call) (xs ys : List Waiting) → xs ≡ ys → DeadlocksAt t s h xs → DeadlocksAt t s h ys
same_waits t s h xs ys same (dead, waits) = (dead, subst (Wait t s h) same waits)

-- the best history of a search that continues from one that had this report and this end
module _ (t : Program) (s : SetupOf) (h : List Call) (r : Report) (end : HistoryEnd) (given : IsReport s h r)
    (x : Search) (same : x.end ≡ end) (no_more : IsNoMore x.best r)
    (driven : IsDriven t (unseeded s) x.end x.best) where
  pub shrunk_of : (g : Shrunk) → IsShrunkOf t (unseeded s) x g → IsShrunk t s h end g
  shrunk_of g is = record {
    setup = is.setup;
    fine = is.fine;
    legal = is.legal;
    report = is.report;
    steps = is.steps;
    outcome = is.outcome ∙ sym driven.report.outcome ∙ no_more.outcome ∙ given.outcome;
    ends = subst (IsEnd t g.setup g.history.items) same is.ends;
    calls = let few = is.calls in omega (arith, few, driven.report.calls, no_more.calls, given.calls);
    contexts = λ n whole.
        let own = is.contexts x.best.report.contexts driven.report.contexts in
        let below = no_more.contexts in
        let above = given.contexts.least n whole.within in
        omega (arith, own, below, above);
  }

-- A fact of a setup except for its seed holds without one.

pub fits_unseeded : (t : Program) (s : SetupOf) → Fits t s → Fits t (unseeded s)
fits_unseeded t s fits = record { entries = fits.entries; init = fits.init }

legal_after : (t : Program) (s : SetupOf) (p xs : List Call) → IsLegalAfter t s p xs → IsLegalAfter t (unseeded s) p xs
legal_after t s p [] legal = tt
legal_after t s p (x ∷ xs) legal = search (rules, (legal_after t s (p ++ x ∷ []) xs legal.1))

pub legal_unseeded : (t : Program) (s : SetupOf) (h : List Call) → IsLegal t s h → IsLegal t (unseeded s) h
legal_unseeded t s h legal = legal_after t s [] h legal

same_live : (s : SetupOf) (h : List Call) (n : ℕ) → live_below n s h ≡ live_below n (unseeded s) h
same_live s h zero = refl
same_live s h (suc n) = ap (λ m. cond (is_terminated s h n) m (m + 1)) (same_live s h n)

pub report_unseeded : (s : SetupOf) (h : List Call) (r : Report) → IsReport s h r → IsReport (unseeded s) h r
report_unseeded s h r given1 = search (rules, same_live)

pub end_unseeded : (t : Program) (s : SetupOf) (h : List Call) (end : HistoryEnd) → IsEnd t s h end → IsEnd t (unseeded s) h end
end_unseeded t s h end given1 = grind (arith)

-- The start of the search for a smaller history, and its result.

module _ (c : Flat) (s : SetupOf) (x : Search) (code : x.session.code ≡ c) (setup : x.session.setup ≡ unseeded s) where
  module _ (h : List Call) (items : x.best.history.items ≡ h) (fits : Fits c.tree s) (legal : IsLegal c.tree s h)
      (report : IsReport s h x.best.report) (ends : IsEnd c.tree s h x.end) where
    driven : IsDriven c.tree (unseeded s) x.end x.best
    driven = record {
      legal = subst (λ g. IsLegal c.tree (unseeded s) g) (sym items) (legal_unseeded c.tree s h legal);
      report = subst (λ g. IsReport (unseeded s) g x.best.report) (sym items) (report_unseeded s h x.best.report report);
      ends = subst (λ g. IsEnd c.tree (unseeded s) g x.end) (sym items) (end_unseeded c.tree s h x.end ends);
    }

    pub starts : IsSearch x
    starts = record {
      fits = rw (code, setup) (fits_unseeded c.tree s fits);
      unseeded_is = ap (λ (y : SetupOf). y.seed) setup;
      driven = rw (code, setup) driven;
    }

  pub leads_to : (y : Search) → GoesOn x y → IsDriven c.tree (unseeded s) y.end y.best
  leads_to y given1 = grind (arith)
