-- The number of runs that used few contexts, and the least numbers that n runs did not exceed.
use Rattle.bp_test.proofs.Common.{◌≡◌, ◌<◌, ◌≤◌, ◌+◌, ◌/◌, ◌^◌, ◌-◌, ℕ, min, Bool, true, false, cond, List, [], ◌∷◌, length, refl, ap, sym, ◌∙◌, subst, arith, inl, inr, if◌then◌else◌, ◌==◌, nat_lt, count_by, slice_index_or, rules, cases_lt, nat_tests, get_or_past, sum_by-cons, count_by-le-length, SetupOf, Tally, within_contexts, contexts_with, IsLeastFor, AreContextsUsed, MadeRun, using_contexts, IsCounted}
use Rattle.std.specs.Int.{div_ceil}
use Rattle.bp_test.specs.declared.tallies.ContextsUsed.{ContextsUsed}

-- how many runs used fewer than i contexts
abbrev pub below_contexts : ℕ → List MadeRun → ℕ
below_contexts i runs = count_by (λ r. nat_lt r.report.contexts i) runs

is_true : (b : Bool) → (b ≡ false → ⊥) → b ≡ true
is_true b given1 = grind (arith)

is_false : (b : Bool) → (b ≡ true → ⊥) → b ≡ false
is_false b given1 = grind (arith)

lt_true : (a b : ℕ) → a < b → nat_lt a b ≡ true
lt_true a b less = is_true (nat_lt a b) (λ e. grind (arith, nat_tests, e, less))

lt_false : (a b : ℕ) → b ≤ a → nat_lt a b ≡ false
lt_false a b far = is_false (nat_lt a b) (λ e. grind (arith, nat_tests, e, far))

eq_true : (a b : ℕ) → a ≡ b → (a == b) ≡ true
eq_true a b same = is_true (a == b) (λ e. grind (arith, nat_tests, e, same))

eq_false : (a b : ℕ) → (a ≡ b → ⊥) → (a == b) ≡ false
eq_false a b other = is_false (a == b) (λ e. other (grind (arith, nat_tests, e)))

one_more : (a i : ℕ) → cond (nat_lt a (i + 1)) 1 0 ≡ cond (nat_lt a i) 1 0 + cond (a == i) 1 0
one_more a i = grind (arith)

cons : (p : MadeRun → Bool) (x : MadeRun) (xs : List MadeRun) → count_by p (x ∷ xs) ≡ cond (p x) 1 0 + count_by p xs
cons p x xs = sum_by-cons (λ r. cond (p r) 1 0) x xs

pub below_more_contexts : (i : ℕ) (runs : List MadeRun) → below_contexts (i + 1) runs ≡ below_contexts i runs + using_contexts i runs
below_more_contexts i [] = refl
below_more_contexts i (x ∷ xs) = search (rules, (below_more_contexts i xs), one_more, cons)

pub within_is_below : (k : ℕ) (runs : List MadeRun) → within_contexts k runs ≡ below_contexts (k + 1) runs
within_is_below k [] = refl
within_is_below k (x ∷ xs) = grind (arith)

pub below_none : (runs : List MadeRun) → below_contexts 0 runs ≡ 0
below_none [] = refl
below_none (x ∷ xs) = search (rules, (below_none xs), lt_false, cons)

fewer : (a m i : ℕ) → m ≤ i → cond (nat_lt a m) 1 0 ≤ cond (nat_lt a i) 1 0
fewer a m i given1 = grind (arith)

pub below_rises : (m i : ℕ) → m ≤ i → (runs : List MadeRun) → below_contexts m runs ≤ below_contexts i runs
below_rises m i le [] = omega arith
below_rises m i le (x ∷ xs) =
    let rest = below_rises m i le xs in
    let here = fewer x.report.contexts m i le in
    let a = cons (λ r. nat_lt r.report.contexts m) x xs in
    let b = cons (λ r. nat_lt r.report.contexts i) x xs in
    omega (arith, rest, here, a, b)

-- no run used as many
pub below_all : (i : ℕ) (runs : List MadeRun) → ((k : ℕ) → i ≤ k → using_contexts k runs ≡ 0) → below_contexts i runs ≡ length runs
below_all i [] none = refl
below_all i (x ∷ xs) none =
    let each = λ (k : ℕ) (far : i ≤ k). cons (λ r. r.report.contexts == k) x xs in
    let rest = below_all i xs (λ k far. let a = each k far in let b = none k far in omega (arith, a, b)) in
    let less : x.report.contexts < i = elim (cases_lt x.report.contexts i) [
      | inl less ↦ less
      | inr far ↦
          absurd (let a = each x.report.contexts far in
          let b = none x.report.contexts far in
          let c = ap {B = ℕ} (λ b. cond b 1 0) (eq_true x.report.contexts x.report.contexts refl) in
          omega (arith, a, b, c))
    ] in
    let here = ap {B = ℕ} (λ b. cond b 1 0) (lt_true x.report.contexts i less) in
    let a = cons (λ r. nat_lt r.report.contexts i) x xs in
    omega (arith, rest, here, a)

-- the result of the loop over the counts below i
pub record AreSoFar (runs : List MadeRun) (i before : ℕ) (x : ContextsUsed) : Type 0 where
  pub count : before ≡ below_contexts i runs
  pub least : min 1 (length runs) ≤ before → IsLeastFor runs (min 1 (length runs)) x.least
  pub middle : (length runs + 1) / 2 ≤ before → IsLeastFor runs ((length runs + 1) / 2) x.middle
  pub most : length runs ≤ before → IsLeastFor runs (length runs) x.most

nothing_yet : (runs : List MadeRun) (n : ℕ) → n ≤ 0 → IsLeastFor runs n 0
nothing_yet runs n none = record { enough = omega (arith, none); least = λ m enough. omega arith }

pub none_so_far : (runs : List MadeRun) (x : ContextsUsed) → x.least ≡ 0 → x.middle ≡ 0 → x.most ≡ 0 → AreSoFar runs 0 0 x
none_so_far runs x least middle most = record {
  count = sym (below_none runs);
  least = λ few. subst (IsLeastFor runs (min 1 (length runs))) (sym least) (nothing_yet runs (min 1 (length runs)) few);
  middle = λ few. subst (IsLeastFor runs ((length runs + 1) / 2)) (sym middle) (nothing_yet runs ((length runs + 1) / 2) few);
  most = λ few. subst (IsLeastFor runs (length runs)) (sym most) (nothing_yet runs (length runs) few);
}

module _ (runs : List MadeRun) (i before x : ℕ) (count : before ≡ below_contexts i runs) (has : x ≡ using_contexts i runs) where
  next_count : before + x ≡ below_contexts (i + 1) runs
  next_count = let more = below_more_contexts i runs in omega (arith, count, has, more)

  pub next_fits : before + x ≤ length runs
  next_fits = let few = count_by-le-length (λ r. nat_lt r.report.contexts (i + 1)) runs in let next = next_count in omega (arith, few, next)

  -- the least number that n runs did not exceed is i, if fewer than n used less
  found_now : (n : ℕ) → before < n → n ≤ before + x → IsLeastFor runs n i
  found_now n few enough = record {
    enough = let next = next_count in let same = within_is_below i runs in omega (arith, enough, next, same);
    least = λ m reached. elim (cases_lt m i) [
      | inl less ↦
          absurd (let same = within_is_below m runs in
          let rise = below_rises (m + 1) i (omega (arith, less)) runs in
          omega (arith, few, count, reached, same, rise))
      | inr far ↦ far
    ];
  }

  least_next : (n k new : ℕ) → (n ≤ before → IsLeastFor runs n k) → (before < n → new ≡ i) → (n ≤ before → new ≡ k) → n ≤ before + x → IsLeastFor runs n new
  least_next n k new was now kept enough = elim (cases_lt before n) [
    | inl few ↦ subst (IsLeastFor runs n) (sym (now few)) (found_now n few enough)
    | inr done ↦ subst (IsLeastFor runs n) (sym (kept done)) (was done)
  ]

-- no run used i contexts
pub skipped : (runs : List MadeRun) (i before : ℕ) (x : ContextsUsed) → 0 ≡ using_contexts i runs → AreSoFar runs i before x → AreSoFar runs (i + 1) before x
skipped runs i before x none was = record {
  count = let next = next_count runs i before 0 was.count none in omega (arith, next);
  least = was.least;
  middle = was.middle;
  most = was.most;
}

-- some did
module _ (runs : List MadeRun) (i before x : ℕ) (old : ContextsUsed) (has : x ≡ using_contexts i runs) (some : 0 < x) (was : AreSoFar runs i before old) where
  fits : before + x ≤ length runs
  fits = next_fits runs i before x was.count has

  pub counted_next : AreSoFar runs (i + 1) (before + x) (contexts_with i before ((length runs + 1) / 2) old)
  counted_next = let small = fits in record {
    count = next_count runs i before x was.count has;
    least = λ enough. least_next runs i before x was.count has (min 1 (length runs)) old.least _ was.least
        (λ few. ap (λ b. if b then i else old.least) (eq_true before 0 (omega (arith, few))))
        (λ done. ap (λ b. if b then i else old.least) (eq_false before 0 (λ none. omega (arith, none, done, small, some))))
        enough;
    middle = λ enough. least_next runs i before x was.count has ((length runs + 1) / 2) old.middle _ was.middle
        (λ few. ap (λ b. if b then i else old.middle) (lt_true before ((length runs + 1) / 2) few))
        (λ done. ap (λ b. if b then i else old.middle) (lt_false before ((length runs + 1) / 2) done))
        enough;
    most = λ enough. least_next runs i before x was.count has (length runs) old.most i was.most
        (λ few. refl)
        (λ done. absurd (omega (arith, done, small, some)))
        enough;
  }

half_of : (n : ℕ) → div_ceil n 2 ≡ (n + 1) / 2
half_of n = omega arith

-- the counts of a tally of few runs are exact
module _ (s : SetupOf) (runs : List MadeRun) (tally : Tally) (few : length runs < 2 ^ 64) (is : IsCounted s runs tally) where
  pub exact_runs : tally.runs ≡ length runs
  exact_runs = let e = is.count in omega (arith, e, few)

  pub exact_contexts : (k : ℕ) → slice_index_or tally.contexts.items k 0 ≡ using_contexts k runs
  exact_contexts k = let e = is.contexts k in let small = count_by-le-length (λ r. r.report.contexts == k) runs in omega (arith, e, few, small)

  -- all counts were seen
  pub all_seen : (i before : ℕ) (x : ContextsUsed) → length tally.contexts.items ≤ i → AreSoFar runs i before x → AreContextsUsed runs x
  all_seen i before x past was =
      let all = below_all i runs (λ k far. sym (exact_contexts k) ∙ get_or_past tally.contexts.items k 0 (omega (arith, past, far))) in
      let count = was.count in record {
        least = was.least (omega (arith, all, count));
        middle = was.middle (omega (arith, all, count));
        most = was.most (omega (arith, all, count));
      }

  -- count i was seen
  module _ (items : List ℕ) (items_are : items ≡ tally.contexts.items) (i before : ℕ) (used : ContextsUsed) (was : AreSoFar runs i before used) where
    has : slice_index_or items i 0 ≡ using_contexts i runs
    has = ap (λ xs. slice_index_or xs i 0) items_are ∙ exact_contexts i

    pub seen_none : slice_index_or items i 0 ≤ 0 → AreSoFar runs (i + 1) before used
    seen_none none = let own = has in skipped runs i before used (omega (arith, none, own)) was

    pub seen_some : 0 < slice_index_or items i 0 → (half : ℕ) → half ≡ div_ceil tally.runs 2 → (after : ℕ)
        → after ≡ min (before + slice_index_or items i 0) (2 ^ 64 - 1) → (new : ContextsUsed)
        → new ≡ contexts_with i before half used → AreSoFar runs (i + 1) after new
    seen_some some half half_is after after_is new new_is =
        let halves : half ≡ (length runs + 1) / 2 = half_is ∙ (ap (λ n. div_ceil n 2) exact_runs ∙ half_of (length runs)) in
        let small = next_fits runs i before (slice_index_or items i 0) was.count has in
        let sums : after ≡ before + slice_index_or items i 0 = omega (arith, after_is, small, few) in
        let next = counted_next runs i before (slice_index_or items i 0) used has some was in
        subst (λ y. AreSoFar runs (i + 1) after y) (sym new_is) (subst (λ n. AreSoFar runs (i + 1) after (contexts_with i before n used)) (sym halves)
        (subst (λ n. AreSoFar runs (i + 1) n (contexts_with i before ((length runs + 1) / 2) used)) (sym sums) next))
