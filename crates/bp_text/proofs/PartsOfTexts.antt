-- Texts of parts: with one more part, and then all of them.
use Rattle.bp_text.proofs.Common.{◌≡◌, ◌∙◌, ◌++◌, List, ap, append_assoc, append-nil, ◌+◌, ◌<◌, ℕ, zero, suc, [], ◌∷◌, Some, length, get_or, refl, sym, arith, ◌≢◌, ◌==◌, true, false, take, flat_map, fold, ◌⊎◌, inl, inr, ◌≤◌, subst, rules, get_or-append_seam, get_or_append_left, nil_from_length, flat_map_more, take_more, ext_get_or, slice_get_within, slice_get-get_or, get_or_from_slice_get, false≢true, cases_lt, Decides-eqb, concat, Adds, IsInParts}
use Rattle.std.proofs.Common.{slice_get}
use Rattle.std.proofs.lemmas.List.Folds.{concat-append}
use Rattle.std.proofs.lemmas.List.{length-append}

-- Lists one after the other: with a part more, without their first part, and in other groups.

-- however its parts are grouped, a list is the same: `simp regrouped`
pub ruleset regrouped = (append_assoc, append-nil, concat-append)

module _ {X : Type 0} where
  -- two parts were added, which are one
  pub both_added : (old now new first second all : List X) → new ≡ now ++ second → now ≡ old ++ first → first ++ second ≡ all → new ≡ old ++ all
  both_added old now new first second all given1 given2 given3 = search (rules, append_assoc)

  -- the first part of what was left was added
  pub rest_left : (old now part rest all : List X) → now ≡ old ++ part → old ++ (part ++ rest) ≡ all → now ++ rest ≡ all
  rest_left old now part rest all added is = ap (λ xs. xs ++ rest) added ∙ append_assoc old part rest ∙ is

-- The items of a list, and of a list with one more.

-- an element of a list with one more is one of the list, or that one
module _ {A : Type 0} (xs : List A) (y : A) (k : ℕ) (z : A) (at : slice_get (xs ++ y ∷ []) k ≡ Some z) where
  found : get_or (xs ++ y ∷ []) k z ≡ z
  found = get_or_from_slice_get (xs ++ y ∷ []) k z z at

  pub within : k < length xs + 1
  within = omega (arith, slice_get_within (xs ++ y ∷ []) k z at, length-append xs (y ∷ []))

  pub one_before : k < length xs → slice_get xs k ≡ Some z
  one_before p = slice_get-get_or xs k z p ∙ ap Some (sym (get_or_append_left xs (y ∷ []) z k p) ∙ found)

  pub one_last : k ≡ length xs → y ≡ z
  one_last p = sym (get_or-append_seam xs y [] z) ∙ ap (λ n. get_or (xs ++ y ∷ []) n z) (sym p) ∙ found

-- the item at a place within a list
pub item_at : {X : Type 0} (xs : List X) (k : ℕ) → k < length xs → (x : X) × (slice_get xs k ≡ Some x)
item_at [] k within = absurd (omega (arith, within))
item_at (x ∷ xs) zero within = (x, refl)
item_at (x ∷ xs) (suc k) within = item_at xs k (omega (arith, within))

-- Whether a list has an element.

pub none_left : {A : Type 0} (xs : List A) → (length xs == 0) ≡ true → xs ≡ []
none_left xs none = nil_from_length xs ((Decides-eqb (length xs) 0).0 none)

pub some_left : {A : Type 0} (xs : List A) → (length xs == 0) ≡ false → xs ≢ []
some_left xs some e = let none = (Decides-eqb (length xs) 0).1 (ap length e) in false≢true (sym some ∙ none)

-- Texts that are added one after the other, and the next turn of a loop that adds a text.

pub one_more : {X : Type 0} (f : X → List ℕ) (old now new : List ℕ) (xs : List X) (n : ℕ) (x : X) → n < length xs
    → now ≡ old ++ flat_map f (take n xs) → new ≡ now ++ f (get_or xs n x) → new ≡ old ++ flat_map f (take (n + 1) xs)
one_more given1 given2 given3 = search (rules, within, flat_map_more, take_more)

pub all_added : (old : List ℕ) (ts : List (List ℕ)) → fold (λ a t. a ++ t) old ts ≡ old ++ concat ts
all_added old [] = sym (append-nil old)
all_added old (t ∷ ts) = all_added (old ++ t) ts ∙ append_assoc old t (concat ts)

-- each item of a list has a part, if each that is found there has one
pub part_of_each
    : {X : Type 0} (IsOf : ℕ → X → List ℕ → Type 0) (xs : List X) → ((k : ℕ) (x : X) → slice_get xs k ≡ Some x → (part : List ℕ) × IsOf k x part)
    → (k : ℕ) → k < length xs → (part : List ℕ) × ((x : X) → slice_get xs k ≡ Some x → IsOf k x part)
part_of_each IsOf xs some k within =
    let (x, at) = item_at xs k within in
    let (part, is) = some k x at in
    (part, λ y found. let same : x ≡ y = cc in subst (λ z. IsOf k z part) same is)

module _ {IsPart : ℕ → List ℕ → Type 0} where
  pub no_parts : IsInParts IsPart 0 []
  no_parts = grind (arith)

  module _ {n : ℕ} {text : List ℕ} (are : IsInParts IsPart n text) (part : List ℕ) (is : IsPart n part) where
    each_then : (k : ℕ) (p : List ℕ) → slice_get (are.parts ++ part ∷ []) k ≡ Some p → IsPart k p
    each_then k p at = by_place (cases_lt k n)
      where
        by_place : (k < n) ⊎ (n ≤ k) → IsPart k p
        by_place (inl inside) = are.each k p (one_before are.parts part k p at (omega (arith, inside, are.count)))
        by_place (inr past) =
            let same : k ≡ n = omega (arith, past, within are.parts part k p at, are.count) in
            let last = one_last are.parts part k p at (same ∙ sym are.count) in
            subst (λ j. IsPart j p) (sym same) (subst (λ q. IsPart n q) last is)

    pub parts_then : IsInParts IsPart (suc n) (text ++ part)
    parts_then = record {
      parts = are.parts ++ part ∷ [];
      count = omega (arith, are.count, length-append are.parts (part ∷ []));
      is = ap (λ z. z ++ part) are.is ∙ ap (λ z. concat are.parts ++ z) (sym (append-nil part)) ∙ sym (concat-append are.parts (part ∷ []));
      each = each_then;
    }

  -- one more part was added
  pub one_added : {n : ℕ} {a b c : List ℕ} → Adds (IsInParts IsPart n) a b → Adds (IsPart n) b c → Adds (IsInParts IsPart (suc n)) a c
  one_added {a = a} {b = b} {c = c} all one = record {
    more = all.more ++ one.more;
    is = both_added a b c all.more one.more _ one.is all.is refl;
    more_are = parts_then all.more_are one.more one.more_are;
  }

  -- if each of `all` parts has a text, the first n can be extended to all
  pub parts_go_on
      : (all : ℕ) → ((k : ℕ) → k < all → (part : List ℕ) × IsPart k part) → (more n : ℕ) → n + more ≡ all
      → (text : List ℕ) → IsInParts IsPart n text → (rest : List ℕ) × IsInParts IsPart all (text ++ rest)
  parts_go_on all each zero n count text are =
      let same : n ≡ all = omega (arith, count) in
      ([], subst (λ k. IsInParts IsPart k (text ++ [])) same (subst (IsInParts IsPart n) (sym (append-nil text)) are))
  parts_go_on all each (suc more) n count text are =
      let (part, is) = each n (omega (arith, count)) in
      let (rest, whole) = parts_go_on all each more (suc n) (omega (arith, count)) (text ++ part) (parts_then are part is) in
      (part ++ rest, simp regrouped at whole)

  -- if each part has one text, so have n parts
  pub one_of_parts : (n : ℕ) → ((k : ℕ) (p q : List ℕ) → k < n → IsPart k p → IsPart k q → p ≡ q) → (a b : List ℕ) → IsInParts IsPart n a
      → IsInParts IsPart n b → a ≡ b
  one_of_parts n one a b x y = x.is ∙ ap concat (ext_get_or [] x.parts y.parts (x.count ∙ sym y.count) same) ∙ sym y.is
    where
      same : (k : ℕ) → k < length x.parts → get_or x.parts k [] ≡ get_or y.parts k []
      same k within =
          let few : k < n = omega (arith, within, x.count) in
          let also : k < length y.parts = omega (arith, few, y.count) in
          one k _ _ few (x.each k _ (slice_get-get_or x.parts k [] within)) (y.each k _ (slice_get-get_or y.parts k [] also))
