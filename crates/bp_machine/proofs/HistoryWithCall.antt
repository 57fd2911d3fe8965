-- A history with one more attempt.
use Rattle.bp_machine.proofs.Common.{◌≡◌, ◌≢◌, ℕ, zero, suc, ◌+◌, ◌<◌, ◌==◌, Bool, true, false, cond, ◌||◌, nat_le, List, [], ◌∷◌, ◌++◌, length, refl, ap, ◌∙◌, subst, arith, take, get_or, sym, length-append, ◌⊎◌, Some, inl, inr, ◌≤◌, slice_get, slice_set, rules, append-nil, take_more, length-set, nat_tests, Program, regrouped, Configuration, bits_of, valuation_of, ShowsStack, Call, SetupOf, start, threads, configuration_after_call, is_last, is_granted, configuration_after_calls, configuration_after, granted_threads, calls_of_thread, ends_with_last, is_terminated, live_below, IsAllowed, IsLegalAfter, IsLegal, outcome_or, outcome_of, is_failure, stack_of, terminated_by, live_threads, Reply, Stepped, Outcome, Clean, IsCountOf, State, activations, ShowsThread, StandsAfter, GuestThreadOf}
use Rattle.bp_machine.specs.declared.calls.Reply.TheVariants as replies
use Rattle.bp_machine.specs.declared.calls.Outcome.TheVariants.{Failed}

configuration_after_calls-append : (t : Program) (c : Configuration) (xs : List Call) (x : Call)
    → configuration_after_calls t c (xs ++ x ∷ []) ≡ configuration_after_call t (configuration_after_calls t c xs) x.thread x.bit x.reply
configuration_after_calls-append t c [] x = refl
configuration_after_calls-append t c (y ∷ ys) x = configuration_after_calls-append t (configuration_after_call t c y.thread y.bit y.reply) ys x

pub configuration_after-append : (t : Program) (s : SetupOf) (h : List Call) (x : Call)
    → configuration_after t s (h ++ x ∷ [])
    ≡ configuration_after_call t (configuration_after t s h) x.thread x.bit x.reply
configuration_after-append t s h x = configuration_after_calls-append t (start t s) h x

pub granted_threads-append : (h : List Call) (x : Call) → granted_threads (h ++ x ∷ []) ≡ granted_threads h ++ cond (is_granted x.reply) (x.thread ∷ []) []
granted_threads-append [] x = single (is_granted x.reply)
  where
    single : (b : Bool) → cond b (x.thread ∷ []) [] ≡ [] ++ cond b (x.thread ∷ []) []
    single true = refl
    single false = refl
granted_threads-append (y ∷ ys) x = more (is_granted y.reply) (granted_threads-append ys x)
  where
    more : (b : Bool) → granted_threads (ys ++ x ∷ []) ≡ granted_threads ys ++ cond (is_granted x.reply) (x.thread ∷ []) []
        → cond b (y.thread ∷ granted_threads (ys ++ x ∷ [])) (granted_threads (ys ++ x ∷ []))
        ≡ cond b (y.thread ∷ granted_threads ys) (granted_threads ys) ++ cond (is_granted x.reply) (x.thread ∷ []) []
    more true e = ap (λ ts. y.thread ∷ ts) e
    more false e = e

legal_after : (t : Program) (s : SetupOf) (h xs : List Call) (x : Call) → IsLegalAfter t s h xs → IsAllowed t s (h ++ xs) x → IsLegalAfter t s h (xs ++ x ∷ [])
legal_after t s h [] x legal allowed = (subst (λ g. IsAllowed t s g x) (append-nil h) allowed, tt)
legal_after t s h (y ∷ ys) x (first, rest) allowed = search (rules, (legal_after t s (h ++ y ∷ []) ys x rest (simp regrouped allowed)), [], regrouped)

pub legal-append : (t : Program) (s : SetupOf) (h : List Call) (x : Call) → IsLegal t s h → IsAllowed t s h x → IsLegal t s (h ++ x ∷ [])
legal-append t s h x legal allowed = legal_after t s [] h x legal allowed

pub calls_of_thread-same : (h : List Call) (x : Call) (i : ℕ) → x.thread ≡ i → calls_of_thread i (h ++ x ∷ []) ≡ calls_of_thread i h ++ x ∷ []
calls_of_thread-same [] x i e = let same : (x.thread == i) ≡ true = grind (arith, nat_tests) in ap (λ b. cond b (x ∷ []) []) same
calls_of_thread-same (y ∷ ys) x i e = more (y.thread == i) (calls_of_thread-same ys x i e)
  where
    more : (b : Bool) → calls_of_thread i (ys ++ x ∷ []) ≡ calls_of_thread i ys ++ x ∷ []
        → cond b (y ∷ calls_of_thread i (ys ++ x ∷ [])) (calls_of_thread i (ys ++ x ∷ [])) ≡ cond b (y ∷ calls_of_thread i ys) (calls_of_thread i ys) ++ x ∷ []
    more true e = ap (λ ts. y ∷ ts) e
    more false e = e

pub calls_of_thread-other : (h : List Call) (x : Call) (i : ℕ) → x.thread ≢ i → calls_of_thread i (h ++ x ∷ []) ≡ calls_of_thread i h
calls_of_thread-other [] x i n = let other : (x.thread == i) ≡ false = grind (arith, nat_tests) in ap (λ b. cond b (x ∷ []) []) other
calls_of_thread-other (y ∷ ys) x i n = more (y.thread == i) (calls_of_thread-other ys x i n)
  where
    more : (b : Bool) → calls_of_thread i (ys ++ x ∷ []) ≡ calls_of_thread i ys
        → cond b (y ∷ calls_of_thread i (ys ++ x ∷ [])) (calls_of_thread i (ys ++ x ∷ [])) ≡ cond b (y ∷ calls_of_thread i ys) (calls_of_thread i ys)
    more true e = ap (λ ts. y ∷ ts) e
    more false e = e

pub ends_with_last-append : (cs : List Call) (x : Call) → ends_with_last (cs ++ x ∷ []) ≡ is_last x.reply
ends_with_last-append [] x = refl
ends_with_last-append (y ∷ []) x = refl
ends_with_last-append (y ∷ z ∷ cs) x = ends_with_last-append (z ∷ cs) x

pub terminated-other : (s : SetupOf) (h : List Call) (x : Call) (i : ℕ) → x.thread ≢ i → is_terminated s (h ++ x ∷ []) i ≡ is_terminated s h i
terminated-other s h x i n = ap (λ cs. ends_with_last cs || nat_le s.calls (length cs)) (calls_of_thread-other h x i n)

-- at the start every thread is live
pub live_at_start : (n : ℕ) (s : SetupOf) → 0 < s.calls → live_below n s [] ≡ n
live_at_start zero s some = refl
live_at_start (suc n) s some = ap (λ b. cond b (live_below n s []) (live_below n s [] + 1)) none ∙ (omega (arith, live_at_start n s some))
  where
    none : nat_le s.calls 0 ≡ false
    none = grind (arith, nat_tests)

-- The attempts of a thread, counted one by one.

module _ (h : List Call) (i n : ℕ) (d : Call) (within : i < length h) where
  calls_same : (get_or h i d).thread ≡ n → calls_of_thread n (take (i + 1) h) ≡ calls_of_thread n (take i h) ++ get_or h i d ∷ []
  calls_same e = ap (calls_of_thread n) (take_more h i d within) ∙ calls_of_thread-same (take i h) (get_or h i d) n e

  pub calls_other : (get_or h i d).thread ≢ n → calls_of_thread n (take (i + 1) h) ≡ calls_of_thread n (take i h)
  calls_other e = ap (calls_of_thread n) (take_more h i d within) ∙ calls_of_thread-other (take i h) (get_or h i d) n e

  pub count_same : (get_or h i d).thread ≡ n → length (calls_of_thread n (take i h)) + 1 ≡ length (calls_of_thread n (take (i + 1) h))
  count_same e = sym (ap length (calls_same e) ∙ length-append (calls_of_thread n (take i h)) (get_or h i d ∷ []))

  pub ended_same : (get_or h i d).thread ≡ n → is_last (get_or h i d).reply ≡ ends_with_last (calls_of_thread n (take (i + 1) h))
  ended_same e = sym (ap ends_with_last (calls_same e) ∙ ends_with_last-append (calls_of_thread n (take i h)) (get_or h i d))

-- The outcome of a history with one more attempt.

-- the first outcome that is no clean one
abbrev first_outcome : Outcome → Outcome → Outcome
first_outcome Clean o = o
first_outcome (Failed i) o = Failed i

or_first : (y : Call) (r : Reply) (a b : Outcome) → outcome_or y r (first_outcome a b) ≡ first_outcome (outcome_or y r a) b
or_first y r a b = grind (arith)

outcome-append : (h : List Call) (x : Call) → outcome_of (h ++ x ∷ []) ≡ first_outcome (outcome_of h) (outcome_or x x.reply Clean)
outcome-append [] x = refl
outcome-append (y ∷ ys) x = ap (outcome_or y y.reply) (outcome-append ys x) ∙ or_first y y.reply (outcome_of ys) (outcome_or x x.reply Clean)

or_clean : (o : Outcome) → first_outcome o Clean ≡ o
or_clean o = grind (arith)

not_failed : (x : Call) (r : Reply) → is_granted r ≡ false → outcome_or x r Clean ≡ Clean
not_failed x r given1 = grind (arith)

-- an attempt without a step leaves the outcome
pub same_outcome : (h : List Call) (x : Call) → is_granted x.reply ≡ false → outcome_of h ≡ outcome_of (h ++ x ∷ [])
same_outcome h x e = sym (outcome-append h x ∙ ap (first_outcome (outcome_of h)) (not_failed x x.reply e) ∙ or_clean (outcome_of h))

-- so does a step without a failure
pub stepped_outcome : (h : List Call) (x : Call) → x.reply ≡ Stepped → outcome_of h ≡ outcome_of (h ++ x ∷ [])
stepped_outcome h x e = sym (outcome-append h x ∙ ap (λ r. first_outcome (outcome_of h) (outcome_or x r Clean)) e ∙ or_clean (outcome_of h))

clean_of : (o : Outcome) → is_failure o ≡ false → o ≡ Clean
clean_of o given1 = grind (arith)

-- the first failure is the outcome
pub failed_outcome : (h : List Call) (x : Call) → x.reply ≡ replies.Failed → is_failure (outcome_of h) ≡ false → Failed x.thread ≡ outcome_of (h ++ x ∷ [])
failed_outcome h x given1 given2 = search (rules, outcome-append, clean_of)

-- A state that stands after a history stands after it with one more attempt, if that is allowed.

pub same_or_not : (j i : ℕ) → (j ≡ i) ⊎ (j ≢ i)
same_or_not j i = go (j == i) refl
  where
    go : (b : Bool) → (j == i) ≡ b → (j ≡ i) ⊎ (j ≢ i)
    go true e = inl (grind (arith, nat_tests))
    go false e = inr (λ same. grind (arith, nat_tests))

pub set_same : {X : Type 0} (xs : List X) (i : ℕ) (x y : X) → slice_get xs i ≡ Some x → slice_get (slice_set xs i y) i ≡ Some y
set_same [] i x y e = cc
set_same (z ∷ zs) zero x y e = refl
set_same (z ∷ zs) (suc i) x y e = set_same zs i x y e

pub set_other : {X : Type 0} (xs : List X) (i j : ℕ) (y : X) → j ≢ i → slice_get (slice_set xs i y) j ≡ slice_get xs j
set_other [] i j y n = refl
set_other (z ∷ zs) zero zero y n = absurd (n refl)
set_other (z ∷ zs) zero (suc j) y n = refl
set_other (z ∷ zs) (suc i) zero y n = refl
set_other (z ∷ zs) (suc i) (suc j) y n = set_other zs i j y (λ e. n (ap suc e))

module _ (t : Program) (s : SetupOf) (x : State) (h : List Call) (stands : StandsAfter t s x h) (i : ℕ)
    (guest : GuestThreadOf) (has : slice_get x.threads i ≡ Some guest) where
  -- the state after one more attempt with this reply
  pub record Leaves (call : Call) (guest_after : GuestThreadOf) (y : State) (d : Configuration) : Type 0 where
    pub thread : call.thread ≡ i
    pub allowed : IsAllowed t s h call
    pub calls : guest_after.calls ≡ guest.calls + 1
    pub ended : guest_after.ended ≡ is_last call.reply
    pub guests : y.threads ≡ slice_set x.threads i guest_after
    pub after_is : configuration_after t s (h ++ call ∷ []) ≡ d
    pub globals : d.globals ≡ valuation_of t.globals (bits_of y.globals)
    pub failed : d.failed ≡ is_failure y.outcome
    pub outcome : y.outcome ≡ outcome_of (h ++ call ∷ [])
    pub stacks : length d.stacks ≡ threads s
    pub stack : ShowsStack t (activations guest_after.stack) (stack_of d i)
    pub others : (j : ℕ) → j ≢ i → stack_of d j ≡ stack_of (configuration_after t s h) j
    pub contexts : IsCountOf y.contexts (granted_threads (h ++ call ∷ []))

  own_guest : (call : Call) (guest_after : GuestThreadOf) (y : State) (d : Configuration) → Leaves call guest_after y d
      → (l : GuestThreadOf) → guest_after ≡ l → ShowsThread t d (h ++ call ∷ []) i l
  own_guest call guest_after y d e l is =
      let was = stands.thread i guest has in
      let more = calls_of_thread-same h call i e.thread in
      subst (λ m. ShowsThread t d (h ++ call ∷ []) i m) is (record {
        stack = e.stack;
        calls = e.calls ∙ ap (λ n. n + 1) was.calls ∙ sym (ap length more ∙ length-append (calls_of_thread i h) (call ∷ []));
        ended = e.ended ∙ sym (ap ends_with_last more ∙ ends_with_last-append (calls_of_thread i h) call);
      })

  other_guest : (call : Call) (guest_after : GuestThreadOf) (y : State) (d : Configuration)
      → Leaves call guest_after y d → (j : ℕ) → j ≢ i → (l : GuestThreadOf) → slice_get x.threads j ≡ Some l
      → ShowsThread t d (h ++ call ∷ []) j l
  other_guest call guest_after y d e j n l is =
      let was = stands.thread j l is in
      let same = calls_of_thread-other h call j (λ at. n (sym at ∙ e.thread)) in
      record {
        stack = subst (λ fs. ShowsStack t (activations l.stack) fs) (sym (e.others j n)) was.stack;
        calls = was.calls ∙ sym (ap length same);
        ended = was.ended ∙ sym (ap ends_with_last same);
      }

  pub advance : (call : Call) (guest_after : GuestThreadOf) (y : State) (d : Configuration) → Leaves call guest_after y d → StandsAfter t s y (h ++ call ∷ [])
  advance call guest_after y d e =
      let is = e.after_is in
      record {
        legal = legal-append t s h call stands.legal e.allowed;
        globals = ap (λ (c : Configuration). c.globals) is ∙ e.globals;
        failed = ap (λ (c : Configuration). c.failed) is ∙ e.failed;
        outcome = e.outcome;
        stacks = ap (λ (c : Configuration). length c.stacks) is ∙ e.stacks;
        thread_count = ap length e.guests ∙ length-set x.threads i guest_after ∙ stands.thread_count;
        thread = λ j l at. subst (λ c. ShowsThread t c (h ++ call ∷ []) j l) (sym is) (each j l (sym (ap (λ ls. slice_get ls j) e.guests) ∙ at));
        contexts = e.contexts;
      }
    where
      here : (j : ℕ) (l : GuestThreadOf) → j ≡ i → slice_get (slice_set x.threads i guest_after) j ≡ Some l → ShowsThread t d (h ++ call ∷ []) j l
      here j l same at =
          let got = set_same x.threads i guest guest_after has in
          let found = ap (λ k. slice_get (slice_set x.threads i guest_after) k) (sym same) ∙ at in
          subst (λ k. ShowsThread t d (h ++ call ∷ []) k l) (sym same) (own_guest call guest_after y d e l (cc))

      each : (j : ℕ) (l : GuestThreadOf) → slice_get (slice_set x.threads i guest_after) j ≡ Some l → ShowsThread t d (h ++ call ∷ []) j l
      each j l at =
          elim (same_or_not j i) [
            | inl same ↦ here j l same at
            | inr other ↦
                other_guest call guest_after y d e j other l (sym (set_other x.threads i j guest_after other) ∙ at)
          ]

-- An attempt changes no thread but its own: which threads have terminated, and how many are live.

-- a last reply terminates the thread
pub last_terminates : (s : SetupOf) (h : List Call) (x : Call) → is_last x.reply ≡ true → is_terminated s (h ++ x ∷ []) x.thread ≡ true
last_terminates s h x last =
    let ended = ap ends_with_last (calls_of_thread-same h x x.thread refl) ∙ ends_with_last-append (calls_of_thread x.thread h) x ∙ last in
    ap (λ b. b || nat_le s.calls (length (calls_of_thread x.thread (h ++ x ∷ [])))) ended

abbrev one_if : Bool → ℕ
one_if b = cond b 1 0

module _ (s : SetupOf) (h : List Call) (x : Call) (still_live : is_terminated s h x.thread ≡ false) where
  same_below : (n : ℕ) → n ≤ x.thread → live_below n s (h ++ x ∷ []) ≡ live_below n s h
  same_below zero within = refl
  same_below (suc n) within = search (rules, (same_below n (omega arith)), terminated-other)

  own_line : (now : Bool) (count : ℕ) → cond now count (count + 1) + one_if now ≡ count + 1
  own_line now count = grind (arith)

  pub live_with : (n : ℕ) → x.thread < n → live_below n s (h ++ x ∷ []) + terminated_by s h x ≡ live_below n s h
  live_with zero within = absurd (omega arith)
  live_with (suc n) within = elim (same_or_not x.thread n) [
    | inl same ↦ here same
    | inr other ↦ there other (live_with n (below other))
  ]
    where
      below : x.thread ≢ n → x.thread < n
      below other = grind (arith, nat_tests)

      here : x.thread ≡ n → live_below (suc n) s (h ++ x ∷ []) + terminated_by s h x ≡ live_below (suc n) s h
      here same =
          let count = same_below n (omega (arith, same)) in
          let own : one_if (is_terminated s (h ++ x ∷ []) x.thread) ≡ one_if (is_terminated s (h ++ x ∷ []) n) =
          ap (λ i. one_if (is_terminated s (h ++ x ∷ []) i)) same in
          let before : is_terminated s h n ≡ false = sym (ap (is_terminated s h) same) ∙ still_live in
          ap (λ k. cond (is_terminated s (h ++ x ∷ []) n) k (k + 1) + one_if (is_terminated s (h ++ x ∷ []) x.thread)) count
          ∙ ap (λ k. cond (is_terminated s (h ++ x ∷ []) n) (live_below n s h) (live_below n s h + 1) + k) own
          ∙ own_line (is_terminated s (h ++ x ∷ []) n) (live_below n s h)
          ∙ sym (ap (λ b. cond b (live_below n s h) (live_below n s h + 1)) before)

      more : (b : Bool) → live_below n s (h ++ x ∷ []) + terminated_by s h x ≡ live_below n s h
          → cond b (live_below n s (h ++ x ∷ [])) (live_below n s (h ++ x ∷ []) + 1) + terminated_by s h x ≡ cond b (live_below n s h) (live_below n s h + 1)
      more b given1 = grind (arith)

      there : x.thread ≢ n → live_below n s (h ++ x ∷ []) + terminated_by s h x ≡ live_below n s h
          → live_below (suc n) s (h ++ x ∷ []) + terminated_by s h x ≡ live_below (suc n) s h
      there other before = search (rules, terminated-other, more)

-- the live threads before and after an attempt that is allowed
pub live_threads-append : (t : Program) (s : SetupOf) (h : List Call) (x : Call) → IsAllowed t s h x
    → live_threads s (h ++ x ∷ []) + terminated_by s h x ≡ live_threads s h
live_threads-append t s h x allowed = live_with s h x allowed.still_live (threads s) allowed.thread
