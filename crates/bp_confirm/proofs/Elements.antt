-- Elements of lists, by their places.
use Rattle.bp_confirm.proofs.Common.{◌≡◌, ◌∙◌, ◌+◌, ◌<◌, ℕ, zero, suc, List, [], ◌∷◌, ◌++◌, length, take, drop, get_or, None, Some, slice_get, refl, ap, sym, subst, arith, AllByRecursion, drop-cons, take_more, get_or_from_slice_get, slice_get_within}
use Rattle.std.proofs.Common.{take-append-drop}

module _ {X : Type 0} where
  -- the elements after the first n
  pub rest_at : (xs : List X) (n : ℕ) (d : X) → n < length xs → drop n xs ≡ get_or xs n d ∷ drop (n + 1) xs
  rest_at xs n d within = let one : suc n ≡ n + 1 = omega arith in drop-cons xs n d within ∙ ap (λ k. get_or xs n d ∷ drop k xs) one

  pub parts_at : (xs : List X) (n : ℕ) (d : X) → n < length xs → xs ≡ take n xs ++ get_or xs n d ∷ drop (n + 1) xs
  parts_at xs n d within = sym (take-append-drop n xs) ∙ ap (λ ys. take n xs ++ ys) (rest_at xs n d within)

  -- if x is the n-th
  module _ (xs : List X) (n : ℕ) (x : X) (at : slice_get xs n ≡ Some x) where
    pub parts_got : xs ≡ take n xs ++ x ∷ drop (n + 1) xs
    parts_got = parts_at xs n x (slice_get_within xs n x at) ∙ ap (λ y. take n xs ++ y ∷ drop (n + 1) xs) (get_or_from_slice_get xs n x x at)

    pub take_got : take (n + 1) xs ≡ take n xs ++ x ∷ []
    take_got = take_more xs n x (slice_get_within xs n x at) ∙ ap (λ y. take n xs ++ y ∷ []) (get_or_from_slice_get xs n x x at)

    pub take_and : (old new : List X) → old ≡ take n xs → new ≡ old ++ x ∷ [] → new ≡ take (n + 1) xs
    take_and old new done is = is ∙ ap (λ ys. ys ++ x ∷ []) done ∙ sym take_got

  -- if there is none, the first n are all
  pub past_none : (xs : List X) (n : ℕ) → slice_get xs n ≡ None → take n xs ≡ xs
  past_none [] zero at = refl
  past_none [] (suc n) at = refl
  past_none (y ∷ xs) zero at = absurd cc
  past_none (y ∷ xs) (suc n) at = ap (λ ys. y ∷ ys) (past_none xs n at)

  -- a property of each
  module _ (P : X → Type 0) where
    pub all_at_place : (xs : List X) (n : ℕ) (d : X) → AllByRecursion P xs → n < length xs → P (get_or xs n d)
    all_at_place [] n d all within = absurd (omega (arith, within))
    all_at_place (x ∷ xs) zero d all within = all.0
    all_at_place (x ∷ xs) (suc n) d all within = all_at_place xs n d all.1 (omega (arith, within))

    pub all_got : (xs : List X) (n : ℕ) (x : X) → AllByRecursion P xs → slice_get xs n ≡ Some x → P x
    all_got xs n x all at = subst P (get_or_from_slice_get xs n x x at) (all_at_place xs n x all (slice_get_within xs n x at))

    pub all_here : (a : List X) (x : X) (c : List X) → AllByRecursion P (a ++ x ∷ c) → P x
    all_here [] x c all = all.0
    all_here (y ∷ a) x c all = all_here a x c all.1

    -- the first element that has not this property is at one place
    pub first_once : (a b c d : List X) (x y : X) → AllByRecursion P a → (P x → ⊥) → AllByRecursion P b → (P y → ⊥)
        → a ++ x ∷ c ≡ b ++ y ∷ d → (length a ≡ length b) × (x ≡ y)
    first_once [] [] c d x y p not_x q not_y e = (refl, cc)
    first_once [] (z ∷ b) c d x y p not_x q not_y e = let same : z ≡ x = cc in absurd (not_x (subst P same q.0))
    first_once (z ∷ a) [] c d x y p not_x q not_y e = let same : z ≡ y = cc in absurd (not_y (subst P same p.0))
    first_once (z ∷ a) (w ∷ b) c d x y p not_x q not_y e = let (size, same) = first_once a b c d x y p.1 not_x q.1 not_y cc in (ap suc size, same)
