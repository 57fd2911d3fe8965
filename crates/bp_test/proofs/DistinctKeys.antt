-- The number of different keys of a list, and of those that occur once, by the same keys in order.
use Rattle.bp_test.proofs.Common.{◌≡◌, ◌≢◌, ◌⊎◌, ◌<◌, ◌≤◌, ◌+◌, ◌-◌, ℕ, zero, suc, cond, Bool, true, false, not, ◌||◌, ◌&&◌, List, length, take, drop, refl, ap, sym, ◌∙◌, subst, arith, ◌==◌, count_by, slice_index_or, nat_eq, eqb-true, rules, Contains-permutation, IsPermutation-sym, sum_by-IsPermutation, IsDistinct-from_apart, nat_tests, get_or-take, get_or-drop, length-take, length-drop, take_all, drop_all, get_or_default, sum_by-take-drop, sum_by-drop_more, sum_by-le, sum_by_more, get_or-le-sum_by, alone_before, count_of, is_alone}
use Rattle.std.specs.List.{All, Contains, dedup}
use Rattle.std.specs.List.Sorted.{IsNonDecreasing, IsPermutation, IsStrictlyIncreasing}
use Rattle.std.specs.Set.{distinct_count, is_member}
use Rattle.std.proofs.lemmas.Cmp.{nat_eq_equiv}
use Rattle.std.proofs.lemmas.List.Folds.{Any-from_list_any, list_any_at}
use Rattle.std.proofs.lemmas.List.Kept.{AllPairs-from_increasing, Contains-dedup_nat, Contains-from_dedup}
use Rattle.std.proofs.lemmas.Map.Made.{length-from_keys}

abbrev as_one : Bool → ℕ
as_one b = cond b 1 0

abbrev one_if : ℕ → ℕ → ℕ
one_if key k = cond (k == key) 1 0

-- keys that all differ from this one
apart_none : (key : ℕ) (ks : List ℕ) → All (λ k. k ≢ key) ks → count_of key ks ≡ 0
apart_none key ks apart = let most = sum_by-le (one_if key) 0 ks (λ i d within. none (slice_index_or ks i d) (apart i d within)) in omega (arith, most)
  where
    none : (k : ℕ) → k ≢ key → one_if key k ≤ 0
    none k other = grind (arith, nat_tests, other)

module _ (xs : List ℕ) (up : IsNonDecreasing xs) where
  abbrev at : ℕ → ℕ
  at i = slice_index_or xs i 0

  -- the test of the key at place n
  abbrev is_once : ℕ → Bool
  is_once key = count_of key xs == 1

  module _ (n : ℕ) (within : n < length xs) where
    abbrev before : ℕ
    before = count_of (at n) (take n xs)

    abbrev after : ℕ
    after = count_of (at n) (drop (n + 1) xs)

    whole : count_of (at n) xs ≡ before + (1 + after)
    whole = search (rules, sum_by-take-drop, sum_by-drop_more, nat_tests)

    first_none : n ≡ 0 → before ≡ 0
    first_none zero_is = ap (λ k. count_of (at n) (take k xs)) zero_is

    -- no key before differs from the one just before in being less
    before_none : 0 < n → at (n - 1) ≢ at n → before ≡ 0
    before_none some other = apart_none (at n) (take n xs) (λ i d inside same.
        let below : i < n = let size = length-take n xs in omega (arith, size, inside) in
        let value : slice_index_or xs i 0 ≡ at n = get_or_default xs i 0 d (omega (arith, below, within)) ∙ (sym (get_or-take n xs i d below) ∙ same) in
        let low = up i (n - 1) 0 (omega (arith, below)) (omega (arith, within)) in
        let high = up (n - 1) n 0 (omega arith) within in
        other (omega (arith, value, low, high)))

    before_some : 0 < n → at (n - 1) ≡ at n → 1 ≤ before
    before_some given1 given2 = search (rules, length-take, get_or-le-sum_by, get_or-take, nat_tests)

    last_none : n + 1 ≡ length xs → after ≡ 0
    last_none last = ap (count_of (at n)) (drop_all (n + 1) xs (omega (arith, last)))

    after_none : n + 1 < length xs → at (n + 1) ≢ at n → after ≡ 0
    after_none more other = apart_none (at n) (drop (n + 1) xs) (λ i d inside same.
        let size = length-drop (n + 1) xs in
        let value : slice_index_or xs (n + 1 + i) 0 ≡ at n =
        get_or_default xs (n + 1 + i) 0 d (omega (arith, size, inside)) ∙ (sym (get_or-drop (n + 1) xs i d) ∙ same) in
        let low = up n (n + 1) 0 (omega arith) more in
        let high = up (n + 1) (n + 1 + i) 0 (omega arith) (omega (arith, size, inside)) in
        other (omega (arith, value, low, high)))

    after_some : n + 1 < length xs → at (n + 1) ≡ at n → 1 ≤ after
    after_some more same =
        let size = length-drop (n + 1) xs in
        let most = get_or-le-sum_by (one_if (at n)) (drop (n + 1) xs) 0 0 (omega (arith, size, more)) in
        let next : n + 1 + 0 ≡ n + 1 = omega arith in
        let value : slice_index_or (drop (n + 1) xs) 0 0 ≡ at n = get_or-drop (n + 1) xs 0 0 ∙ (ap at next ∙ same) in
        let one : one_if (at n) (slice_index_or (drop (n + 1) xs) 0 0) ≡ 1 =
        ap (one_if (at n)) value ∙ (let it : one_if (at n) (at n) ≡ 1 = grind (arith, nat_tests) in it) in
        omega (arith, most, one)

    -- a test that is 1 if there are none, and 0 if there are some
    abbrev Tells : Bool → ℕ → Type 0
    Tells b count = ((b ≡ true) × (count ≡ 0)) ⊎ ((b ≡ false) × (1 ≤ count))

    front : (a b : Bool) → (n == 0) ≡ a → (at (n - 1) == at n) ≡ b → Tells (a || not b) before
    front a b given1 given2 = search (rules, first_none, nat_tests, before_none, before_some)

    back : (a b : Bool) → (n + 1 == length xs) ≡ a → (at (n + 1) == at n) ≡ b → Tells (a || not b) after
    back a b given1 given2 = search (rules, last_none, nat_tests, after_none, after_some)

    once_if : (m : ℕ) → m ≡ 1 → (m == 1) ≡ true
    once_if m e = grind (arith, nat_tests, e)

    more_if : (m : ℕ) → 2 ≤ m → (m == 1) ≡ false
    more_if m e = grind (arith, nat_tests, e)

    told : (a b : Bool) → Tells a before → Tells b after → (a && b) ≡ is_once (at n)
    told a b given1 given2 = search (rules, once_if, whole, more_if)

    -- a key is there once if no neighbour is that key
    alone_at : is_alone xs n ≡ is_once (at n)
    alone_at = told _ _ (front (n == 0) (at (n - 1) == at n) refl refl) (back (n + 1 == length xs) (at (n + 1) == at n) refl refl)

  alone_so_far : (n : ℕ) → n ≤ length xs → alone_before xs n ≡ count_by is_once (take n xs)
  alone_so_far zero le = refl
  alone_so_far (suc n) le =
      let was = alone_so_far n (omega (arith, le)) in
      let here = alone_at n (omega (arith, le)) in
      let more = sum_by_more (λ key. cond (is_once key) 1 0) xs n 0 (omega (arith, le)) in
      let next : n + 1 ≡ suc n = omega arith in
      let same = ap as_one here in
      subst (λ k. alone_before xs (suc n) ≡ count_by is_once (take k xs)) next (omega (arith, was, more, same))

  pub alone_all : alone_before xs (length xs) ≡ count_by is_once xs
  alone_all = alone_so_far (length xs) (omega arith) ∙ ap (count_by is_once) (take_all (length xs) xs (omega arith))

-- the same keys in another order
module _ (xs ys : List ℕ) (moved : IsPermutation xs ys) where
  once_moved : count_by (λ key. count_of key ys == 1) ys ≡ count_by (λ key. count_of key xs == 1) xs
  once_moved =
      ap (λ test. count_by test ys) (λ i key. sum_by-IsPermutation (one_if key) xs ys moved i == 1)
      ∙ sum_by-IsPermutation (λ key. cond (count_of key xs == 1) 1 0) xs ys moved

  pub once_in_order : IsNonDecreasing ys → alone_before ys (length ys) ≡ count_by (λ key. count_of key xs == 1) xs
  once_in_order up = alone_all ys up ∙ once_moved

  member_is : (ks : List ℕ) (q : ℕ) → is_member nat_eq ks q ≡ true → Contains ks q
  member_is ks q is =
      let any = Any-from_list_any (nat_eq q) ks is in
      (any.0, any.2, subst (λ x. slice_index_or ks any.0 x ≡ x) (sym (eqb-true q any.1 any.4)) any.3)

  contains_is : (ks : List ℕ) (q : ℕ) → Contains ks q → is_member nat_eq ks q ≡ true
  contains_is ks q has = list_any_at (nat_eq q) ks has.0 q has.1 (let same = has.2 in grind (arith, nat_tests, same))

  both_ways : (a b : Bool) → (a ≡ true → b ≡ true) → (b ≡ true → a ≡ true) → a ≡ b
  both_ways a b given1 given2 = grind (arith)

  same_members : (ks : List ℕ) → ks ≡ dedup nat_eq ys → (q : ℕ) → is_member nat_eq ks q ≡ is_member nat_eq xs q
  same_members ks is q = both_ways (is_member nat_eq ks q) (is_member nat_eq xs q)
      (λ has. contains_is xs q (Contains-permutation ys xs q (IsPermutation-sym xs ys moved)
      (Contains-from_dedup nat_eq ys q (subst (λ l. Contains l q) is (member_is ks q has)))))
      (λ has. contains_is ks q (subst (λ l. Contains l q) (sym is) (Contains-dedup_nat ys q (Contains-permutation xs ys q moved (member_is xs q has)))))

  -- the keys without repetitions are as many as the different keys
  pub runs_in_order : (ks : List ℕ) → ks ≡ dedup nat_eq ys → IsStrictlyIncreasing (dedup nat_eq ys) → length ks ≡ distinct_count nat_eq xs
  runs_in_order ks is up =
      let rises = subst IsStrictlyIncreasing (sym is) up in
      let below = AllPairs-from_increasing ks rises in
      length-from_keys nat_eq_equiv ks xs (IsDistinct-from_apart nat_eq ks
      (λ i j d less inside. let fewer = below i j d less inside in grind (arith, nat_tests, fewer)))
      (same_members ks is)
