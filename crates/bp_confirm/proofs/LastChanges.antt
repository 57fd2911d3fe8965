-- At most one step changes a view last, and an attempt does not change a view before it.
use Rattle.bp_confirm.proofs.Common.{◌≡◌, ◌∙◌, ◌<◌, ◌≤◌, ◌⊎◌, inl, inr, ℕ, Bool, List, [], ◌∷◌, ◌++◌, length, take, Option, None, Some, refl, ap, sym, subst, arith, length-append, ◌+◌, drop, get_or, map, option_map, slice_get, rules, take_all, take-append-le, drop_of_length-le, Program, Valuation, Call, configuration_after, IsLeastWithin, SetupOf, contexts_opened, opened, opened_none, opened_more, opened_least, IsLastChange, seen_by, seen_after, IsDifference, IsFirstMismatch, StepLineOf, thread_of}
use Rattle.std.proofs.Math.Nat.{eq-or-lt_of_le}
use Rattle.bp_confirm.proofs.Elements.{rest_at}

-- if two see the same after each of the first n steps
module _ (f g : ℕ → Option Bool) (n : ℕ) (same : (k : ℕ) → k ≤ n → f k ≡ g k) where
  pub same_change : (o : Option ℕ) → IsLastChange f n o → IsLastChange g n o
  same_change o given1 = grind (arith)

module _ (f g : ℕ → Option Bool) (n : ℕ) (same : (k : ℕ) → k ≤ n → f k ≡ g k) where
  pub one_last_change : (a b : Option ℕ) → IsLastChange f n a → IsLastChange g n b → a ≡ b
  one_last_change a b given1 given2 = grind (arith)

-- the view after the front of a history
module _ {X : Type 0} (look : List X → Option Bool) (h : List X) where
  -- a further attempt does not change a view before it
  pub seen_in_front : (a : X) (k : ℕ) → k ≤ length h → look (take k (h ++ a ∷ [])) ≡ look (take k h)
  seen_in_front a k within = ap look (take-append-le k h (a ∷ []) within)

  seen_at_end : (g : List X) (k : ℕ) → length g ≤ k → look (take k g) ≡ look g
  seen_at_end g k past = ap look (take_all k g past)

  pub seen_whole : (g : List X) → look (take (length g) g) ≡ look g
  seen_whole g = let all : length g ≤ length g = omega arith in seen_at_end g (length g) all

  -- two attempts after which the same is seen
  module _ (a b : X) (same : look (h ++ a ∷ []) ≡ look (h ++ b ∷ [])) where
    as_long : length (h ++ a ∷ []) ≡ length (h ++ b ∷ [])
    as_long = length-append h (a ∷ []) ∙ sym (length-append h (b ∷ []))

    seen_alike : (k : ℕ) → k ≤ length (h ++ a ∷ []) → look (take k (h ++ a ∷ [])) ≡ look (take k (h ++ b ∷ []))
    seen_alike k within = by_end (eq-or-lt_of_le within)
      where
        by_end : (k ≡ length (h ++ a ∷ [])) ⊎ (k < length (h ++ a ∷ [])) → look (take k (h ++ a ∷ [])) ≡ look (take k (h ++ b ∷ []))
        by_end (inl e) =
            let one : length (h ++ a ∷ []) ≤ k = omega (arith, e) in
            let long = as_long in
            let other : length (h ++ b ∷ []) ≤ k = omega (arith, e, long) in
            seen_at_end (h ++ a ∷ []) k one ∙ same ∙ sym (seen_at_end (h ++ b ∷ []) k other)
        by_end (inr less) =
            let long = length-append h (a ∷ []) in
            let early : k ≤ length h = omega (arith, less, long) in
            seen_in_front a k early ∙ sym (seen_in_front b k early)

    pub one_change : (p q : Option ℕ) → IsLastChange (λ k. look (take k (h ++ a ∷ []))) (length (h ++ a ∷ [])) p
        → IsLastChange (λ k. look (take k (h ++ b ∷ []))) (length (h ++ b ∷ [])) q → p ≡ q
    one_change p q given1 given2 = search (rules, one_last_change, seen_alike, as_long)

  -- a last change among the attempts of a history is one among those of a longer one
  pub change_in_front : (a : X) (o : Option ℕ) → IsLastChange (λ k. look (take k h)) (length h) o → IsLastChange (λ k. look (take k (h ++ a ∷ []))) (length h) o
  change_in_front a o given1 = search (rules, same_change, seen_in_front)

-- The first value that a thread does not see after an attempt, and the last change of its view.

module _ (t : Program) (s : SetupOf) (h : List Call) (a : Call) (i : ℕ) (vs : Valuation) (name : List ℕ) (place : ℕ) (seen : Option Bool)
    (named : option_map (λ v. v.0) (slice_get vs place) ≡ Some name) (mismatch : IsFirstMismatch (configuration_after t s (h ++ a ∷ [])) i vs place seen) where
  -- the view of the value's name, after the first attempts of the history with the attempt
  abbrev sees : ℕ → Option Bool
  sees = seen_after t s (h ++ a ∷ []) i name

  name_is : mismatch.value.0 ≡ name
  name_is = let e = sym (ap (option_map (λ v. v.0)) mismatch.at) ∙ named in cc

  all_calls : length h + 1 ≡ length (h ++ a ∷ [])
  all_calls = sym (length-append h (a ∷ []))

  seen_last : seen ≡ sees (length h + 1)
  seen_last =
      mismatch.is_seen ∙ ap (λ x. seen_by t s i x (h ++ a ∷ [])) name_is ∙ sym (seen_whole (seen_by t s i name) h (h ++ a ∷ [])) ∙ ap sees (sym all_calls)

  -- the last change before the attempt, and then after it
  module _ (was : Option Bool) (old changed : Option ℕ)
      (before : (was ≡ seen_after t s h i name (length h)) × IsLastChange (seen_after t s h i name) (length h) old)
      (next : (f : ℕ → Option Bool) (m : ℕ) → length h + 1 ≡ m + 1 → was ≡ f m → IsLastChange f m old
      → seen ≡ f (length h + 1) → IsLastChange f (length h + 1) changed) where
    changed_last : IsLastChange sees (length h + 1) changed
    changed_last =
        let all : length h ≤ length h = omega arith in
        next sees (length h) refl (before.0 ∙ sym (seen_in_front (seen_by t s i name) h a (length h) all))
        (change_in_front (seen_by t s i name) h a old before.1) seen_last

    pub difference_is : IsDifference t s (h ++ a ∷ []) i vs (record { place = place; seen = seen; changed = changed })
    difference_is = record {
      mismatch = mismatch;
      changed =
          subst (λ x. IsLastChange (seen_after t s (h ++ a ∷ []) i x) (length (h ++ a ∷ [])) changed) (sym name_is)
          (subst (λ m. IsLastChange sees m changed) all_calls changed_last);
    }

-- The contexts that the steps of lines use, one line after the other.

opened_small : (l : Option ℕ) (i : ℕ) → contexts_opened l i ≤ 1
opened_small l i = grind (arith)

module _ (xs : List StepLineOf) (n : ℕ) (d : StepLineOf) (last : Option ℕ) (used : ℕ) where
  -- one more line
  pub used_more : n < length xs → used + opened last (map thread_of (drop n xs)) ≡ opened None (map thread_of xs)
      → used + contexts_opened last (get_or xs n d).thread
      + opened (Some (get_or xs n d).thread) (map thread_of (drop (n + 1) xs)) ≡ opened None (map thread_of xs)
  used_more within before =
      let here = ap (λ ys. opened last (map thread_of ys)) (rest_at xs n d within) ∙ opened_more last (get_or xs n d).thread (map thread_of (drop (n + 1) xs)) in
      omega (arith, before, here)

  pub used_small : used ≤ n → used + contexts_opened last (get_or xs n d).thread ≤ n + 1
  used_small few = omega (arith, few, opened_small last (get_or xs n d).thread)

  -- all lines
  pub used_all : length xs ≤ n → used + opened last (map thread_of (drop n xs)) ≡ opened None (map thread_of xs) → IsLeastWithin used (map thread_of xs)
  used_all past before =
      let none = ap (λ ys. opened last (map thread_of ys)) (drop_of_length-le xs past) ∙ opened_none last in
      let same : opened None (map thread_of xs) ≡ used = omega (arith, before, none) in
      subst (λ k. IsLeastWithin k (map thread_of xs)) same (opened_least (map thread_of xs))
