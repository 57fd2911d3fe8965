-- The number of contexts of a list of threads: one for each thread that differs from the one before
-- it.
use Rattle.bp_machine.proofs.Common.{◌≡◌, ◌↔◌, IsTrue, ℕ, ◌+◌, ◌≤◌, ◌==◌, Bool, true, false, cond, nat_le, List, [], ◌∷◌, ◌++◌, length, Option, None, Some, refl, ap, sym, ◌∙◌, subst, arith, concat, nat_tests, ContextCount, EachIs, EachOfOne, IsWithin, IsLeastWithin, last_thread, contexts_opened, used_with, count_with, IsCountOf}

-- if these threads follow the thread l
pub opened : Option ℕ → List ℕ → ℕ
opened l [] = 0
opened l (t ∷ ts) = contexts_opened l t + opened (Some t) ts

pub opened_none : (l : Option ℕ) → opened l [] ≡ 0
unfolding opened
opened_none l = refl

pub opened_more : (l : Option ℕ) (t : ℕ) (ts : List ℕ) → opened l (t ∷ ts) ≡ contexts_opened l t + opened (Some t) ts
unfolding opened
opened_more l t ts = refl

opened_same : (i : ℕ) → contexts_opened (Some i) i ≡ 0
opened_same i = grind (arith, nat_tests)

opened_small : (l : Option ℕ) (i : ℕ) → contexts_opened l i ≤ 1
opened_small None i = omega arith
opened_small (Some j) i = small (j == i)
  where
    small : (b : Bool) → cond b 0 1 ≤ 1
    small true = omega arith
    small false = omega arith

-- a front of one thread, and then pieces of one thread each
record Ahead (u : ℕ) (ts : List ℕ) : Type 0 where
  first : List ℕ
  rest : List (List ℕ)
  each_first : EachIs u first
  each : EachOfOne rest
  whole : first ++ concat rest ≡ ts
  few : length rest ≤ opened (Some u) ts

opened_when : (u t : ℕ) (b : Bool) → (u == t) ≡ b → contexts_opened (Some u) t ≡ cond b 0 1
opened_when u t b e = ap (λ c. cond c 0 1) e

alike : (u t : ℕ) → (u == t) ≡ true → t ≡ u
alike u t e = grind (arith, nat_tests)

one_more : (u t : ℕ) (ts : List ℕ) → Ahead u ts → Ahead t ts → (b : Bool) → (u == t) ≡ b → Ahead u (t ∷ ts)
unfolding opened
one_more u t ts a o true e =
    let same = alike u t e in
    let none : contexts_opened (Some u) t ≡ 0 = opened_when u t true e in
    let configuration_after = ap (λ x. opened (Some x) ts) same in
    record {
      first = t ∷ a.first;
      rest = a.rest;
      each_first = (same, a.each_first);
      each = a.each;
      whole = ap (λ xs. t ∷ xs) a.whole;
      few = omega (arith, none, configuration_after, a.few);
    }
one_more u t ts a o false e =
    let one : contexts_opened (Some u) t ≡ 1 = opened_when u t false e in
    record {
      first = [];
      rest = (t ∷ o.first) ∷ o.rest;
      each_first = tt;
      each = ((t, (refl, o.each_first)), o.each);
      whole = ap (λ xs. t ∷ xs) o.whole;
      few = omega (arith, one, o.few);
    }

ahead : (u : ℕ) (ts : List ℕ) → Ahead u ts
unfolding opened
ahead u [] = record { first = []; rest = []; each_first = tt; each = tt; whole = refl; few = omega arith }
ahead u (t ∷ ts) = one_more u t ts (ahead u ts) (ahead t ts) (u == t) refl

pub enough : (ts : List ℕ) → IsWithin (opened None ts) ts
unfolding opened
enough [] = record { pieces = []; few = omega arith; each = tt; whole = refl }
enough (t ∷ ts) =
    let a = ahead t ts in
    record { pieces = (t ∷ a.first) ∷ a.rest; few = omega arith; each = ((t, (refl, a.each_first)), a.each); whole = ap (λ xs. t ∷ xs) a.whole }

same_thread : (i : ℕ) (piece more : List ℕ) → EachIs i piece → opened (Some i) (piece ++ more) ≡ opened (Some i) more
unfolding opened
same_thread i [] more e = refl
same_thread i (t ∷ ts) more (is, e) =
    let none = ap (λ x. contexts_opened (Some i) x) is ∙ opened_same i in
    let configuration_after = ap (λ x. opened (Some x) (ts ++ more)) is in
    let rest = same_thread i ts more e in
    omega (arith, none, configuration_after, rest)

fewest : (l : Option ℕ) (pieces : List (List ℕ)) → EachOfOne pieces → opened l (concat pieces) ≤ length pieces
unfolding opened
fewest l [] e = omega arith
fewest l ([] ∷ pieces) (one, e) = omega (arith, fewest l pieces e)
fewest l ((t ∷ ts) ∷ pieces) ((i, (is, same)), e) =
    let first = opened_small l t in
    let configuration_after = ap (λ x. opened (Some x) (ts ++ concat pieces)) is in
    let here = same_thread i ts (concat pieces) same in
    let rest = fewest (Some i) pieces e in
    omega (arith, first, configuration_after, here, rest)

-- no fewer contexts will do
pub least : (k : ℕ) (ts : List ℕ) → IsWithin k ts → opened None ts ≤ k
least k ts w = let all = fewest None w.pieces w.each in let e = ap (opened None) w.whole in let few = w.few in omega (arith, all, e, few)

-- more contexts will do as well
pub within_more : (k m : ℕ) (ts : List ℕ) → k ≤ m → IsWithin k ts → IsWithin m ts
within_more k m ts h w = let few = w.few in record { pieces = w.pieces; few = omega arith; each = w.each; whole = w.whole }

pub opened_least : (ts : List ℕ) → IsLeastWithin (opened None ts) ts
opened_least ts = record { within = enough ts; least = λ m w. least m ts w }

pub least_none : IsLeastWithin 0 []
unfolding opened
least_none = opened_least []

pub least_opened : (k : ℕ) (ts : List ℕ) → IsLeastWithin k ts → k ≡ opened None ts
least_opened k ts h = let low = h.least (opened None ts) (enough ts) in let high = least k ts h.within in omega arith

last_or : Option ℕ → List ℕ → Option ℕ
last_or l [] = l
last_or l (t ∷ ts) = last_or (Some t) ts

opened-append : (l : Option ℕ) (ts : List ℕ) (i : ℕ) → opened l (ts ++ i ∷ []) ≡ opened l ts + contexts_opened (last_or l ts) i
unfolding opened last_or
opened-append l [] i = omega arith
opened-append l (t ∷ ts) i = omega (arith, opened-append (Some t) ts i)

last_is : (t : ℕ) (ts : List ℕ) → last_thread (t ∷ ts) ≡ last_or (Some t) ts
unfolding last_or
last_is t [] = refl
last_is t (u ∷ ts) = last_is u ts

last_all : (ts : List ℕ) → last_thread ts ≡ last_or None ts
unfolding last_or
last_all [] = refl
last_all (t ∷ ts) = last_is t ts

-- the test whether it is within the contexts that are allowed
fits_within : (k most : ℕ) (ts : List ℕ) → IsLeastWithin k ts → IsTrue (nat_le k most) ↔ IsWithin most ts
fits_within k most ts h = (λ b. within_more k most ts (at_most k most b) h.within, λ w. low_enough k most (h.least most w))
  where
    at_most : (k m : ℕ) → nat_le k m ≡ true → k ≤ m
    at_most k m e = grind (arith, nat_tests)

    low_enough : (k m : ℕ) → k ≤ m → nat_le k m ≡ true
    low_enough k m e = grind (arith, nat_tests)

last-append : (ts : List ℕ) (i : ℕ) → last_thread (ts ++ i ∷ []) ≡ Some i
last-append [] i = refl
last-append (t ∷ []) i = refl
last-append (t ∷ u ∷ ts) i = last-append (u ∷ ts) i

-- the count of no steps
pub count_of_none : IsCountOf (record { used = 0; last = None }) []
count_of_none = record { used = least_none; last = refl }

module _ (k : ContextCount) (ts : List ℕ) (i : ℕ) (counts : IsCountOf k ts) where
  -- the contexts that are used with one more step are the least number
  least_with : IsLeastWithin (used_with k i) (ts ++ i ∷ [])
  least_with =
      let e = opened-append None ts i in
      let c = ap (λ l. contexts_opened l i) (counts.last ∙ last_all ts) in
      let is : opened None (ts ++ i ∷ []) ≡ used_with k i = omega (arith, e, c, least_opened k.used ts counts.used) in
      subst (λ n. IsLeastWithin n (ts ++ i ∷ [])) is (opened_least (ts ++ i ∷ []))

  -- the count with one more step is the count of all of them
  pub counts_more : IsCountOf (count_with k i) (ts ++ i ∷ [])
  counts_more = record { used = least_with; last = sym (last-append ts i) }

  -- the test whether one more step is within the contexts that are allowed
  pub fits_with : (most : ℕ) → IsTrue (nat_le (used_with k i) most) ↔ IsWithin most (ts ++ i ∷ [])
  fits_with most = fits_within (used_with k i) most (ts ++ i ∷ []) least_with

-- The front of threads that are within some contexts is within as many.

opened_front : (l : Option ℕ) (ts us : List ℕ) → opened l ts ≤ opened l (ts ++ us)
opened_front l [] us = omega (arith, opened_none l)
opened_front l (t ∷ ts) us = omega (arith, opened_more l t ts, opened_more l t (ts ++ us), opened_front (Some t) ts us)

pub within_front : (k : ℕ) (ts us : List ℕ) → IsWithin k (ts ++ us) → IsWithin k ts
within_front k ts us w =
    let low = opened_front None ts us in
    let high = least k (ts ++ us) w in
    within_more (opened None ts) k ts (omega (arith, low, high)) (enough ts)
