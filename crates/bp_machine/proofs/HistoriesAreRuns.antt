-- The granted attempts of a legal history are a run within the bounds of its setup.
use Rattle.bp_machine.proofs.Common.{◌≡◌, ◌≢◌, ℕ, zero, suc, ◌+◌, ◌*◌, ◌<◌, ◌≤◌, ◌==◌, Bool, true, false, cond, ◌||◌, List, [], ◌∷◌, ◌++◌, length, refl, ap, sym, ◌∙◌, subst, arith, add-one, inl, inr, length-append, map, rules, suc-mul, nat_tests, Program, regrouped, Configuration, Moves, Call, SetupOf, threads, calls_of_thread, is_terminated, IsAllowed, IsLegalAfter, IsLegal, configuration_after_call, IsWithin, configuration_after, granted_threads, granted_calls, is_granted, IsRun, Reply, HasRoom, EachHasRoom, reply_of_step, history_of_run, HasBoundedRun}
use Rattle.std.proofs.Common.{append-nil}
use Rattle.bp_machine.proofs.HistoryWithCall.{calls_of_thread-same, calls_of_thread-other, same_or_not, configuration_after-append}
use Rattle.bp_machine.proofs.RealFailures.{IsStep, is_step, step_moves, run_from, runs, within, first_step, ended, one_move}
use Rattle.bp_machine.proofs.RunsAreHistories.{reply_before}

-- A legal history has at most as many attempts as its threads may make together.

-- each attempt is of a thread below n
abbrev pub AllBelow : ℕ → List Call → Type 0
AllBelow n [] = Unit {0}
AllBelow n (x ∷ xs) = (x.thread < n) × AllBelow n xs

-- the attempts of the threads below n
pub total : ℕ → List Call → ℕ
total zero h = 0
total (suc n) h = total n h + length (calls_of_thread n h)

one_more : (x : Call) (xs : List Call) (i : ℕ) → x.thread ≡ i → length (calls_of_thread i (x ∷ xs)) ≡ length (calls_of_thread i xs) + 1
one_more x xs i given1 = grind (arith)

no_more : (x : Call) (xs : List Call) (i : ℕ) → x.thread ≢ i → length (calls_of_thread i (x ∷ xs)) ≡ length (calls_of_thread i xs)
no_more x xs i given1 = grind (arith)

total_past : (n : ℕ) (x : Call) (xs : List Call) → n ≤ x.thread → total n (x ∷ xs) ≡ total n xs
unfolding total
total_past zero x xs h = refl
total_past (suc n) x xs h = search (rules, (total_past n x xs (omega arith)), no_more)

total_more : (n : ℕ) (x : Call) (xs : List Call) → x.thread < n → total n (x ∷ xs) ≡ total n xs + 1
unfolding total
total_more zero x xs h = absurd (omega arith)
total_more (suc n) x xs h = elim (same_or_not x.thread n) [
  | inl same ↦ omega (arith, total_past n x xs (omega (arith, same)), one_more x xs n same)
  | inr other ↦ omega (arith, total_more n x xs (below other), no_more x xs n other)
]
  where
    below : x.thread ≢ n → x.thread < n
    below other = grind (arith, nat_tests)

pub total_next : (n : ℕ) (h : List Call) → total n h + length (calls_of_thread n h) ≡ total (n + 1) h
unfolding total
total_next n h = ap (λ k. total k h) (sym (add-one n))

pub total_zero : (h : List Call) → 0 ≡ total 0 h
unfolding total
total_zero h = refl

total_none : (n : ℕ) → total n [] ≡ 0
unfolding total
total_none zero = refl
total_none (suc n) = omega (arith, total_none n)

total_all : (n : ℕ) (h : List Call) → AllBelow n h → total n h ≡ length h
total_all n [] all = total_none n
total_all n (x ∷ xs) (below, all) = total_more n x xs below ∙ omega (arith, total_all n xs all)

total_bound : (n k : ℕ) (h : List Call) → ((i : ℕ) → length (calls_of_thread i h) ≤ k) → total n h ≤ n * k
unfolding total
total_bound zero k h each = omega arith
total_bound (suc n) k h each = omega (arith, total_bound n k h each, each n, suc-mul n k)

module _ (t : Program) (s : SetupOf) where
  -- a live thread has fewer attempts than are allowed
  fewer : (a b : Bool) → (a || b) ≡ false → b ≡ false
  fewer a b given1 = grind (arith)

  room : (h : List Call) (i : ℕ) → is_terminated s h i ≡ false → length (calls_of_thread i h) < s.calls
  room h i given1 = grind (arith)

  next : (p : List Call) (x : Call) → IsAllowed t s p x → ((i : ℕ) → length (calls_of_thread i p) ≤ s.calls) → (i : ℕ)
      → length (calls_of_thread i (p ++ x ∷ [])) ≤ s.calls
  next p x allowed each i = elim (same_or_not x.thread i) [
    | inl same ↦ own same
    | inr other ↦ let is = ap length (calls_of_thread-other p x i other) in omega (arith, is, each i)
  ]
    where
      own : x.thread ≡ i → length (calls_of_thread i (p ++ x ∷ [])) ≤ s.calls
      own same =
          let is = ap length (calls_of_thread-same p x i same) ∙ length-append (calls_of_thread i p) (x ∷ []) in
          let few = subst (λ j. length (calls_of_thread j p) < s.calls) same (room p x.thread allowed.still_live) in
          omega (arith, is, few)

  pub bounded : (p xs : List Call) → IsLegalAfter t s p xs → ((i : ℕ) → length (calls_of_thread i p) ≤ s.calls)
      → (i : ℕ) → length (calls_of_thread i (p ++ xs)) ≤ s.calls
  bounded p [] legal each i = rw (append-nil p) (each i)
  bounded p (x ∷ xs) (allowed, rest) each i = search (rules, (bounded (p ++ x ∷ []) xs rest (next p x allowed each) i), [], regrouped, next)

  below_after : (p xs : List Call) → IsLegalAfter t s p xs → AllBelow (threads s) xs
  below_after p [] legal = tt
  below_after p (x ∷ xs) (allowed, rest) = (allowed.thread, below_after (p ++ x ∷ []) xs rest)

  -- each attempt of a legal history is of a thread of the setup
  pub all_below : (h : List Call) → IsLegal t s h → AllBelow (threads s) h
  all_below h legal = below_after [] h legal

  -- the attempts of all threads are all attempts
  pub all_calls : (h : List Call) → IsLegal t s h → total (threads s) h ≡ length h
  all_calls h legal = total_all (threads s) h (all_below h legal)

  pub legal_length : (h : List Call) → IsLegal t s h → length h ≤ threads s * s.calls
  legal_length h legal =
      let all = total_all (threads s) h (all_below h legal) in
      let few = total_bound (threads s) s.calls h (bounded [] h legal (λ i. omega arith)) in
      omega (arith, all, few)

same_threads : (h : List Call) → granted_threads h ≡ map (λ x. x.thread) (granted_calls h)
same_threads [] = refl
same_threads (x ∷ xs) = here (is_granted x.reply) (same_threads xs)
  where
    here : (b : Bool) → granted_threads xs ≡ map (λ y. y.thread) (granted_calls xs)
        → cond b (x.thread ∷ granted_threads xs) (granted_threads xs) ≡ map (λ y. y.thread) (cond b (x ∷ granted_calls xs) (granted_calls xs))
    here true e = ap (λ ts. x.thread ∷ ts) e
    here false e = e

-- of a thread there are no more granted attempts than attempts
fewer_granted : (i : ℕ) (h : List Call) → length (calls_of_thread i (granted_calls h)) ≤ length (calls_of_thread i h)
fewer_granted i [] = omega arith
fewer_granted i (x ∷ xs) = here (is_granted x.reply) (fewer_granted i xs)
  where
    kept : (own : Bool) → length (calls_of_thread i (granted_calls xs)) ≤ length (calls_of_thread i xs)
        → length (cond own (x ∷ calls_of_thread i (granted_calls xs)) (calls_of_thread i (granted_calls xs)))
        ≤ length (cond own (x ∷ calls_of_thread i xs) (calls_of_thread i xs))
    kept true h = omega arith
    kept false h = h

    left_out : (own : Bool) → length (calls_of_thread i (granted_calls xs)) ≤ length (calls_of_thread i xs)
        → length (calls_of_thread i (granted_calls xs)) ≤ length (cond own (x ∷ calls_of_thread i xs) (calls_of_thread i xs))
    left_out own given1 = grind (arith)

    here : (granted : Bool) → length (calls_of_thread i (granted_calls xs)) ≤ length (calls_of_thread i xs)
        → length (calls_of_thread i (cond granted (x ∷ granted_calls xs) (granted_calls xs)))
        ≤ length (cond (x.thread == i) (x ∷ calls_of_thread i xs) (calls_of_thread i xs))
    here granted given1 = grind (arith)

module _ (t : Program) (c : Configuration) (i : ℕ) (bit : Bool) (r : Reply) (granted : is_granted r ≡ true) where
  -- the reply of a step tells whether an assertion failed
  step_reply : IsStep t c i bit r → r ≡ reply_of_step [] (configuration_after_call t c i bit r).failed
  step_reply given1 = grind (arith)

no_split : (before : List Call) (x : Call) (later : List Call) → [] ≡ before ++ x ∷ later → ⊥
no_split [] x later e = cc
no_split (y ∷ ys) x later e = cc

module _ (t : Program) (s : SetupOf) where
  -- an attempt without a step leaves the configuration
  stays : (h : List Call) (y : Call) → is_granted y.reply ≡ false → configuration_after t s (h ++ y ∷ []) ≡ configuration_after t s h
  stays h y given1 = search (rules, configuration_after-append)

  module _ (h : List Call) (y : Call) (allowed : IsAllowed t s h y) (granted : is_granted y.reply ≡ true) where
    step : IsStep t (configuration_after t s h) y.thread y.bit y.reply
    step = (is_step t (configuration_after t s h) y.thread y.bit y.reply granted allowed.answers.fits allowed.answers.is).1

    pub goes : Moves t (configuration_after t s h) y.thread y.bit (configuration_after t s (h ++ y ∷ []))
    goes = rw (configuration_after-append t s h y) (step_moves t (configuration_after t s h) y.thread y.bit y.reply granted step)

    pub room_here : HasRoom (configuration_after t s h) y.thread
    room_here = grind (arith)

    pub reply_here : y.reply ≡ reply_of_step [] (configuration_after t s (h ++ y ∷ [])).failed
    reply_here = search (rules, step_reply, step, configuration_after-append)

  room_of : (h : List Call) (y : Call) (ys : List Call) → IsAllowed t s h y → EachHasRoom t (configuration_after t s (h ++ y ∷ [])) (granted_calls ys)
      → (b : Bool) → is_granted y.reply ≡ b → EachHasRoom t (configuration_after t s h) (cond b (y ∷ granted_calls ys) (granted_calls ys))
  room_of h y ys allowed rest false e = subst (λ c. EachHasRoom t c (granted_calls ys)) (stays h y e) rest
  room_of h y ys allowed rest true e = by_front
    where
      by_front : EachHasRoom t (configuration_after t s h) (y ∷ granted_calls ys)
      by_front [] x later d split run =
          let same : y ≡ x = cc in
          subst (λ z. HasRoom d z.thread) same (subst (λ c. HasRoom c y.thread) (ended run) (room_here h y allowed e))
      by_front (z ∷ zs) x later d split run =
          let same : y ≡ z = cc in
          let left : granted_calls ys ≡ zs ++ x ∷ later = cc in
          let first = first_step (subst (λ w. IsRun t (configuration_after t s h) (w ∷ zs) d) (sym same) run) in
          let next = one_move t (configuration_after t s h) y.thread y.bit first.next (configuration_after t s (h ++ y ∷ [])) first.move (goes h y allowed e) in
          rest zs x later d left (subst (λ c. IsRun t c zs d) next first.rest)

  room_from : (h xs : List Call) → IsLegalAfter t s h xs → EachHasRoom t (configuration_after t s h) (granted_calls xs)
  room_from h [] legal = λ before x later d split run. absurd (no_split before x later split)
  room_from h (y ∷ ys) (allowed, rest) = room_of h y ys allowed (room_from (h ++ y ∷ []) ys rest) (is_granted y.reply) refl

  replies_of : (h : List Call) (y : Call) (ys : List Call) (e : Configuration) → IsAllowed t s h y
      → IsRun t (configuration_after t s (h ++ y ∷ [])) (granted_calls ys) e
      → history_of_run (granted_calls ys) e.failed ≡ granted_calls ys
      → (b : Bool) → is_granted y.reply ≡ b
      → history_of_run (cond b (y ∷ granted_calls ys) (granted_calls ys)) e.failed
      ≡ cond b (y ∷ granted_calls ys) (granted_calls ys)
  replies_of h y ys e given1 given2 given3 b given4 = search (rules, reply_here, reply_before)

  replies_from : (h xs : List Call) → IsLegalAfter t s h xs → history_of_run (granted_calls xs) (configuration_after t s (h ++ xs)).failed ≡ granted_calls xs
  replies_from h [] legal = refl
  replies_from h (y ∷ ys) (allowed, rest) = search (rules, (replies_from (h ++ y ∷ []) ys rest), [], regrouped, replies_of, run_from)

pub history_is_run : (t : Program) (s : SetupOf) (h : List Call) → IsLegal t s h → HasBoundedRun t s h
history_is_run t s h legal = record {
  run = record {
    run = runs t s h legal;
    contexts = subst (λ ts. IsWithin s.contexts ts) (same_threads h) (within t s h legal);
    calls = λ i. let few = bounded t s [] h legal (λ j. omega arith) i in omega (arith, few, fewer_granted i h);
    room = room_from t s [] h legal;
  };
  replies = replies_from t s [] h legal;
}
