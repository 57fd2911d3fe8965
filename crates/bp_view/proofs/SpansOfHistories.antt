-- The spans of a history with one more attempt.
use Rattle.bp_view.proofs.Common.{if◌then◌else◌, ◌≡◌, ◌∙◌, ◌⊎◌, inl, inr, ℕ, ◌+◌, ◌<◌, ◌≤◌, List, [], ◌∷◌, ◌++◌, Some, Bool, true, false, length, take, drop, ap, sym, refl, subst, take-append-drop, arith, zero, suc, ◌==◌, cond, map, get_or, append-nil, rules, take-append_seam, get_or-append_seam, cases_lt, false≢true, take-append-le, take_more, get_or_append_left, slice_get_within, slice_get-get_or, get_or_from_slice_get, nat_tests, one_before, one_last, within, Program, Call, IsWithin, IsLeastWithin, granted_threads, is_granted, configuration_after, contexts_opened, last_thread, used_with, SetupOf, within_front, counts_more, granted_threads-append, IsContextOf, IsStepIn, count_of, joined, with_step, AreSpans, AreSpansFrom, IsSpan, IsStandingPoint, IsContext, Span}
use Rattle.std.proofs.lemmas.List.{length-append}

-- The contexts of a history with one more attempt.

-- the threads of the steps of a history in two parts
granted-append : (g h : List Call) → granted_threads (g ++ h) ≡ granted_threads g ++ granted_threads h
granted-append [] h = refl
granted-append (x ∷ xs) h = more (is_granted x.reply) (granted-append xs h)
  where
    more : (b : Bool) → granted_threads (xs ++ h) ≡ granted_threads xs ++ granted_threads h
        → (if b then x.thread ∷ granted_threads (xs ++ h) else granted_threads (xs ++ h))
        ≡ (if b then x.thread ∷ granted_threads xs else granted_threads xs) ++ granted_threads h
    more true e = ap (λ ts. x.thread ∷ ts) e
    more false e = e

-- no step is in a context after those that are used
pub steps_within : (h : List Call) (m n k : ℕ) (x : Call) → IsLeastWithin m (granted_threads h) → IsStepIn n h k x → n ≤ m
steps_within h m n k x used is =
    let inside = slice_get_within h k x is.at in
    let front = take_more h k x inside ∙ ap (λ y. take k h ++ y ∷ []) (get_or_from_slice_get h k x x is.at) in
    let whole = ap (λ g. g ++ drop (k + 1) h) (sym front) ∙ take-append-drop (k + 1) h in
    let parts = ap granted_threads (sym whole) ∙ granted-append (take k h ++ x ∷ []) (drop (k + 1) h) in
    is.context.1.least m (within_front m (granted_threads (take k h ++ x ∷ [])) (granted_threads (drop (k + 1) h)) (subst (IsWithin m) parts used.within))

module _ (h : List Call) (x : Call) where
  pub take_front : (k : ℕ) → k ≤ length h → take k (h ++ x ∷ []) ≡ take k h
  take_front k p = take-append-le k h (x ∷ []) p

  longer : length (h ++ x ∷ []) ≡ length h + 1
  longer = length-append h (x ∷ [])

  -- a step of the history is one of the longer history
  step_kept : (n k : ℕ) (y : Call) → IsStepIn n h k y → IsStepIn n (h ++ x ∷ []) k y
  step_kept n k y is =
      let inside = slice_get_within h k y is.at in
      let there = get_or_append_left h (x ∷ []) y k inside ∙ get_or_from_slice_get h k y y is.at in
      record {
        at = slice_get-get_or (h ++ x ∷ []) k y (omega (arith, inside, longer)) ∙ ap Some there;
        context = subst (λ g. IsContext g y (Some n)) (sym (take_front k (omega (arith, inside)))) is.context;
      }

  -- so is the step of the last attempt
  last_step : (n : ℕ) → IsContext h x (Some n) → IsStepIn n (h ++ x ∷ []) (length h) x
  last_step n here = record {
    at = slice_get-get_or (h ++ x ∷ []) (length h) x (omega (arith, longer)) ∙ ap Some (get_or-append_seam h x [] x);
    context = subst (λ g. IsContext g x (Some n)) (sym (take-append_seam h (x ∷ []))) here;
  }

  -- there is no other
  step_of : (n k : ℕ) (y : Call) → IsStepIn n (h ++ x ∷ []) k y
      → (IsStepIn n h k y × (k < length h)) ⊎ ((k ≡ length h) × (x ≡ y) × IsContext h x (Some n))
  step_of n k y is = by_place (cases_lt k (length h))
    where
      by_place : (k < length h) ⊎ (length h ≤ k) → (IsStepIn n h k y × (k < length h)) ⊎ ((k ≡ length h) × (x ≡ y) × IsContext h x (Some n))
      by_place (inl p) =
          let own = subst (λ g. IsContext g y (Some n)) (take_front k (omega (arith, p))) is.context in
          inl (record { at = one_before h x k y is.at p; context = own }, p)
      by_place (inr p) =
          let same : k ≡ length h = omega (arith, p, within h x k y is.at) in
          let front = ap (λ j. take j (h ++ x ∷ [])) same ∙ take-append_seam h (x ∷ []) in
          let last = one_last h x k y is.at same in
          inr (same, last, subst (λ z. IsContext h z (Some n)) (sym last) (subst (λ g. IsContext g y (Some n)) front is.context))

  -- a step is in one context
  pub one_context : (m n : ℕ) → IsContext h x (Some m) → IsContext h x (Some n) → m ≡ n
  one_context m n a b = let low = a.1.least n b.1.within in let high = b.1.least m a.1.within in omega (arith, low, high)

  -- a context in which the last attempt made no step stays as it is
  module _ (n i first last : ℕ) (is : IsContextOf n h i first last) where
    begins_within : first < length h
    begins_within = slice_get_within h first is.begins.0 is.begins.1.at

    each_kept : (IsContext h x (Some n) → ⊥) → (k : ℕ) (y : Call)
        → (IsStepIn n h k y × (k < length h)) ⊎ ((k ≡ length h) × (x ≡ y) × IsContext h x (Some n))
        → (y.thread ≡ i) × (first ≤ k) × (k ≤ last)
    each_kept given1 k y given2 = grind (arith)

    pub context_kept : (IsContext h x (Some n) → ⊥) → IsContextOf n (h ++ x ∷ []) i first last
    context_kept not = record {
      begins = (is.begins.0, step_kept n first is.begins.0 is.begins.1);
      ends = (is.ends.0, step_kept n last is.ends.0 is.ends.1);
      each = λ k y step. each_kept not k y (step_of n k y step);
    }

    -- one in which it made a step ends with it
    each_joined : x.thread ≡ i → (k : ℕ) (y : Call)
        → (IsStepIn n h k y × (k < length h)) ⊎ ((k ≡ length h) × (x ≡ y) × IsContext h x (Some n))
        → (y.thread ≡ i) × (first ≤ k) × (k ≤ length h)
    each_joined given1 k y given2 = search (rules, begins_within)

    pub context_joined : IsContext h x (Some n) → x.thread ≡ i → IsContextOf n (h ++ x ∷ []) i first (length h)
    context_joined here thread = record {
      begins = (is.begins.0, step_kept n first is.begins.0 is.begins.1);
      ends = (x, last_step n here);
      each = λ k y step. each_joined thread k y (step_of n k y step);
    }

  -- a context in which no attempt made a step before has only the last step
  each_new : (n : ℕ) → ((k : ℕ) (y : Call) → IsStepIn n h k y → ⊥) → (k : ℕ) (y : Call)
      → (IsStepIn n h k y × (k < length h)) ⊎ ((k ≡ length h) × (x ≡ y) × IsContext h x (Some n))
      → (y.thread ≡ x.thread) × (length h ≤ k) × (k ≤ length h)
  each_new n given1 k y given2 = grind (arith)

  pub context_new : (n : ℕ) → IsContext h x (Some n) → ((k : ℕ) (y : Call) → IsStepIn n h k y → ⊥) → IsContextOf n (h ++ x ∷ []) x.thread (length h) (length h)
  context_new n here none = record {
    begins = (x, last_step n here);
    ends = (x, last_step n here);
    each = λ k y step. each_new n none k y (step_of n k y step);
  }

abbrev threads_of : List Span → List ℕ
threads_of xs = map (λ (x : Span). x.thread) xs

-- how many spans there are with one more step, and whose step the last one is
last_more : (i : ℕ) (ts : List ℕ) (j : ℕ) → last_thread ts ≡ Some j → last_thread (i ∷ ts) ≡ Some j
last_more i ts j given1 = grind (arith)

module _ (step : Span) where
  last_with : (xs : List Span) → last_thread (threads_of (with_step xs step)) ≡ Some step.thread
  last_with [] = refl
  last_with (x ∷ []) = by_same (x.thread == step.thread) refl
    where
      by_same : (b : Bool) → (x.thread == step.thread) ≡ b → last_thread (threads_of (if b then joined x step ∷ [] else x ∷ step ∷ [])) ≡ Some step.thread
      by_same true e = let same : x.thread ≡ step.thread = grind (arith, nat_tests) in ap Some same
      by_same false e = refl
  last_with (x ∷ y ∷ xs) = last_more x.thread (threads_of (with_step (y ∷ xs) step)) step.thread (last_with (y ∷ xs))

  length_with : (xs : List Span) → length (with_step xs step) ≡ length xs + contexts_opened (last_thread (threads_of xs)) step.thread
  length_with [] = refl
  length_with (x ∷ []) = by_same (x.thread == step.thread)
    where
      by_same : (b : Bool) → length (if b then joined x step ∷ [] else x ∷ step ∷ []) ≡ 1 + (if b then 0 else 1)
      by_same true = refl
      by_same false = refl
  length_with (x ∷ y ∷ xs) = let rest = length_with (y ∷ xs) in omega (arith, rest)

  -- one more step after the last of some spans
  pub with_step_after : (xs : List Span) (y : Span)
      → with_step (xs ++ y ∷ []) step ≡ xs ++ (if y.thread == step.thread then joined y step ∷ [] else y ∷ step ∷ [])
  with_step_after [] y = refl
  with_step_after (x ∷ []) y = refl
  with_step_after (x ∷ z ∷ xs) y = ap (λ ys. x ∷ ys) (with_step_after (z ∷ xs) y)

take_whole : (h : List Call) (x : Call) → take (suc (length h)) (h ++ x ∷ []) ≡ h ++ x ∷ []
take_whole [] x = refl
take_whole (y ∷ h) x = ap (λ g. y ∷ g) (take_whole h x)

module _ (t : Program) (s : SetupOf) where
  -- each of the spans is a context
  span_at : (h : List Call) (n : ℕ) (xs : List Span) → AreSpansFrom t s h n xs → (k : ℕ) (d : Span) → k < length xs → IsSpan t s h (n + k) (get_or xs k d)
  span_at h n [] are k d inside = absurd (omega (arith, inside))
  span_at h n (x ∷ xs) are zero d inside = subst (λ m. IsSpan t s h m x) (omega arith) are.0
  span_at h n (x ∷ xs) are (suc k) d inside = search (rules, (span_at h (suc n) xs are.1 k d (omega (arith, inside))))

  pub span_of : (h : List Call) (xs : List Span) → AreSpans t s h xs → (k : ℕ) (d : Span) → k < length xs → IsSpan t s h (k + 1) (get_or xs k d)
  span_of h xs are k d inside =
      let place : 1 + k ≡ k + 1 = omega arith in
      subst (λ m. IsSpan t s h m (get_or xs k d)) place (span_at h 1 xs are.each k d inside)

  module _ (h : List Call) (x : Call) where
    -- a span in which the last attempt made no step stays as it is
    span_kept : (n : ℕ) (y : Span) → (IsContext h x (Some n) → ⊥) → IsSpan t s h n y → IsSpan t s (h ++ x ∷ []) n y
    span_kept n y not is =
        let begins = slice_get_within h is.first is.context.begins.0 is.context.begins.1.at in
        let ends = slice_get_within h is.last is.context.ends.0 is.context.ends.1.at in
        record {
          first = is.first;
          last = is.last;
          context = context_kept h x n y.thread is.first is.last is.context not;
          first_is = is.first_is;
          last_is = is.last_is;
          before = subst (λ g. IsStandingPoint t (configuration_after t s g) y.thread y.before)
              (sym (take_front h x is.first (omega (arith, begins)))) is.before;
          after = subst (λ g. IsStandingPoint t (configuration_after t s g) y.thread y.after)
              (sym (take_front h x (suc is.last) (omega (arith, ends)))) is.after;
        }

    all_kept : (is_granted x.reply ≡ false) → (n : ℕ) (ys : List Span) → AreSpansFrom t s h n ys → AreSpansFrom t s (h ++ x ∷ []) n ys
    all_kept idle n [] are = tt
    all_kept idle n (y ∷ ys) are = (span_kept n y (λ here. false≢true (sym idle ∙ here.0)) are.0, all_kept idle (suc n) ys are.1)

    -- an attempt without a step leaves all spans as they are
    pub spans_idle : (xs : List Span) → AreSpans t s h xs → is_granted x.reply ≡ false → AreSpans t s (h ++ x ∷ []) xs
    spans_idle xs given1 given2 = search (rules, granted_threads-append, append-nil, all_kept)

    -- the step of the last attempt, as a span of its own
    pub record IsOwnStep (step : Span) : Type 0 where
      pub thread : step.thread ≡ x.thread
      pub first : step.first ≡ suc (length h)
      pub last : step.last ≡ suc (length h)
      pub before : IsStandingPoint t (configuration_after t s h) step.thread step.before
      pub after : IsStandingPoint t (configuration_after t s (h ++ x ∷ [])) step.thread step.after

    module _ (step : Span) (own : IsOwnStep step) where
      after_whole : IsStandingPoint t (configuration_after t s (take (suc (length h)) (h ++ x ∷ []))) step.thread step.after
      after_whole = subst (λ g. IsStandingPoint t (configuration_after t s g) step.thread step.after) (sym (take_whole h x)) own.after

      span_joined : (n : ℕ) (y : Span) → IsContext h x (Some n) → y.thread ≡ step.thread → IsSpan t s h n y → IsSpan t s (h ++ x ∷ []) n (joined y step)
      span_joined n y here same is =
          let begins = slice_get_within h is.first is.context.begins.0 is.context.begins.1.at in
          record {
            first = is.first;
            last = length h;
            context = context_joined h x n y.thread is.first is.last is.context here (sym (same ∙ own.thread));
            first_is = is.first_is;
            last_is = own.last;
            before = subst (λ g. IsStandingPoint t (configuration_after t s g) y.thread y.before)
                (sym (take_front h x is.first (omega (arith, begins)))) is.before;
            after = subst (λ i. IsStandingPoint t (configuration_after t s (take (suc (length h)) (h ++ x ∷ []))) i step.after) (sym same) after_whole;
          }

      span_new : (n : ℕ) → IsContext h x (Some n) → ((k : ℕ) (y : Call) → IsStepIn n h k y → ⊥) → IsSpan t s (h ++ x ∷ []) n step
      span_new n here none = record {
        first = length h;
        last = length h;
        context = subst (λ i. IsContextOf n (h ++ x ∷ []) i (length h) (length h)) (sym own.thread) (context_new h x n here none);
        first_is = own.first;
        last_is = own.last;
        before = subst (λ g. IsStandingPoint t (configuration_after t s g) step.thread step.before) (sym before_whole) own.before;
        after = after_whole;
      }
        where
          front_all : (g : List Call) → take (length g) g ≡ g
          front_all [] = refl
          front_all (y ∷ g) = ap (λ k. y ∷ k) (front_all g)

          before_whole : take (length h) (h ++ x ∷ []) ≡ h
          before_whole = take_front h x (length h) (omega arith) ∙ front_all h

      -- the step is in context m, which is the last one or the next one
      all_with : (n : ℕ) (ys : List Span) (m : ℕ) → IsContext h x (Some m) → m + 1 ≡ n + length ys + contexts_opened (last_thread (threads_of ys)) step.thread
          → ((k : ℕ) (y : Call) → IsStepIn (n + length ys) h k y → ⊥) → AreSpansFrom t s h n ys → AreSpansFrom t s (h ++ x ∷ []) n (with_step ys step)
      all_with n [] m here place none are = search (rules, span_new)
      all_with n (y ∷ []) m here place none are = by_same (y.thread == step.thread) refl place
        where
          by_same : (b : Bool) → (y.thread == step.thread) ≡ b → m + 1 ≡ n + 1 + (if b then 0 else 1)
              → AreSpansFrom t s (h ++ x ∷ []) n (if b then joined y step ∷ [] else y ∷ step ∷ [])
          by_same true e at =
              let same : m ≡ n = omega (arith, at) in
              let thread : y.thread ≡ step.thread = grind (arith, nat_tests) in
              (span_joined n y (subst (λ k. IsContext h x (Some k)) same here) thread are.0, tt)
          by_same false e at =
              let next : m ≡ suc n = omega (arith, at) in
              let past : suc n ≡ n + 1 = omega arith in
              let later = subst (λ k. IsContext h x (Some k)) next here in (
                span_kept n y (λ now. absurd (let same = one_context h x n (suc n) now later in omega (arith, same))) are.0,
                (span_new (suc n) later (λ k z is. none k z (subst (λ j. IsStepIn j h k z) past is)), tt),
              )
      all_with n (y ∷ z ∷ ys) m here place none are =
          let past : n + length (y ∷ z ∷ ys) ≡ suc n + length (z ∷ ys) = omega arith in
          let at : m + 1 ≡ suc n + length (z ∷ ys) + contexts_opened (last_thread (threads_of (z ∷ ys))) step.thread = omega (arith, place) in (
            span_kept n y (λ now. absurd (let same = one_context h x n m now here in omega (arith, same, at))) are.0,
            all_with (suc n) (z ∷ ys) m here at (λ k w is. none k w (subst (λ j. IsStepIn j h k w) (sym past) is)) are.1,
          )

      -- a step is in the last context, or opens the next one
      pub spans_with : (xs : List Span) → AreSpans t s h xs → is_granted x.reply ≡ true → AreSpans t s (h ++ x ∷ []) (with_step xs step)
      spans_with xs are granted =
          let i = step.thread in
          let counts = counts_more (count_of xs) (granted_threads h) i are.count in
          let m = used_with (count_of xs) i in
          let steps = granted_threads-append h x
          ∙ ap (λ b. granted_threads h ++ cond b (x.thread ∷ []) []) granted
          ∙ ap (λ j. granted_threads h ++ j ∷ []) (sym own.thread) in
          let here : IsContext h x (Some m) = (granted, subst (IsLeastWithin m) (sym steps) counts.used) in
          let place : m + 1 ≡ 1 + length xs + contexts_opened (last_thread (threads_of xs)) i = omega arith in
          let used = subst (λ n. IsLeastWithin n (granted_threads h ++ i ∷ [])) (sym (length_with step xs)) counts.used in
          record {
            count = record {
              used = subst (IsLeastWithin (length (with_step xs step))) (sym steps) used;
              last = last_with step xs ∙ counts.last ∙ ap last_thread (sym steps);
            };
            each = all_with 1 xs m here place past are.each;
          }
        where
          past : (k : ℕ) (y : Call) → IsStepIn (1 + length xs) h k y → ⊥
          past k y is = let few = steps_within h (length xs) (1 + length xs) k y are.count.used is in absurd (omega (arith, few))

-- The thread of the last step of a history with one more attempt.

last-append : (ts : List ℕ) (i : ℕ) → last_thread (ts ++ i ∷ []) ≡ Some i
last-append [] i = refl
last-append (t ∷ []) i = refl
last-append (t ∷ u ∷ ts) i = last-append (u ∷ ts) i

-- which thread made the last step
pub last_after : (h : List Call) (x : Call)
    → last_thread (granted_threads (h ++ x ∷ [])) ≡ cond (is_granted x.reply) (Some x.thread) (last_thread (granted_threads h))
last_after h x = ap last_thread (granted_threads-append h x) ∙ by_reply (is_granted x.reply)
  where
    by_reply : (b : Bool) → last_thread (granted_threads h ++ cond b (x.thread ∷ []) []) ≡ cond b (Some x.thread) (last_thread (granted_threads h))
    by_reply true = last-append (granted_threads h) x.thread
    by_reply false = ap last_thread (append-nil (granted_threads h))
