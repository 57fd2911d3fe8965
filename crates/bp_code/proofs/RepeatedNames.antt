-- Names that occur twice in a list, or past a limit.
use Rattle.bp_code.proofs.Common.{◌≡◌, ℕ, zero, suc, ◌+◌, ◌<◌, ◌≤◌, nat_lt, ◌||◌, Bool, true, false, List, [], ◌∷◌, length, get_or, take, drop, map, cond, Option, None, Some, is_some, refl, ap, sym, ◌∙◌, arith, slice_get, drop-cons, bytes_eq, ◌⊎◌, inl, inr, subst, ◌++◌, rules, slice_get_within, slice_get_past, slice_get-get_or, slice_get-map, option_copied, IfSome, Bor, length-map, take_more, map-append, Name, Procedure, procedure_named, expression_of, has, first_index_from, first_index, IsNameAt, IsTwice, Among, Uses, SomeUses, CheckError, Among-front, Among-back, Among-split, Found, names_of, Only, Finds, least_of, IsStray}
use Rattle.bp_syntax.specs.declared.exprs.Expr.{Expr}
use Rattle.bp_code.proofs.ErrorsOfParts.{finds_both, finds_same}

-- The first index of a text in a list of names.

module _ (text : List ℕ) where
  -- a name is in the list if it has a first index
  some_first : (b c : Bool) (i : ℕ) (o : Option ℕ) → is_some o ≡ c → is_some (cond b (Some i) o) ≡ (b || c)
  some_first b c i o given1 = grind (arith)

  pub first_has : (i : ℕ) (ns : List Name) → is_some (first_index_from i ns text) ≡ has ns text
  first_has i [] = refl
  first_has i (n ∷ ns) = some_first (bytes_eq n.text text) (has ns text) i _ (first_has (i + 1) ns)

  no_less_cond : (b : Bool) (i k : ℕ) (o : Option ℕ) → (o ≡ Some k → i + 1 ≤ k) → cond b (Some i) o ≡ Some k → i ≤ k
  no_less_cond b i k o given1 given2 = grind (arith)

  no_less : (i k : ℕ) (ns : List Name) → first_index_from i ns text ≡ Some k → i ≤ k
  no_less i k [] e = absurd cc
  no_less i k (n ∷ ns) e = no_less_cond (bytes_eq n.text text) i k _ (no_less (i + 1) k ns) e

  -- an index below a bound
  abbrev pub below : Option ℕ → ℕ → Bool
  below None c = false
  below (Some k) c = nat_lt k c

  none_below : (i : ℕ) (o : Option ℕ) → ((k : ℕ) → o ≡ Some k → i ≤ k) → below o (i + 0) ≡ false
  none_below i o given1 = grind (arith)

  one_below : (b d : Bool) (i c : ℕ) (o : Option ℕ) → below o (i + 1 + c) ≡ d → below (cond b (Some i) o) (i + suc c) ≡ (b || d)
  one_below b d i c o given1 = grind (arith)

  -- a name is among the first c if its first index is below c
  pub first_below : (i c : ℕ) (ns : List Name) → below (first_index_from i ns text) (i + c) ≡ has (take c ns) text
  first_below i zero [] = refl
  first_below i (suc c) [] = refl
  first_below i zero (n ∷ ns) = none_below i (first_index_from i (n ∷ ns) text) (λ k. no_less i k (n ∷ ns))
  first_below i (suc c) (n ∷ ns) = one_below (bytes_eq n.text text) (has (take c ns) text) i c _ (first_below (i + 1) c ns)

  -- the procedure at the first index of its name is the first that is called so
  named_cond : (b : Bool) (i k : ℕ) (q : Procedure) (qs : List Procedure) (o : Option ℕ) (p : Option Procedure)
      → ((j : ℕ) → o ≡ Some (i + 1 + j) → p ≡ slice_get qs j) → ((j : ℕ) → o ≡ Some j → i + 1 ≤ j) → cond b (Some i) o ≡ Some (i + k)
      → cond b (Some q) p ≡ slice_get (q ∷ qs) k
  named_cond b i k q qs o p given1 given2 given3 = grind (arith)

  named_from : (i k : ℕ) (qs : List Procedure) → first_index_from i (map (λ q. q.name) qs) text ≡ Some (i + k) → procedure_named qs text ≡ slice_get qs k
  named_from i k [] e = absurd cc
  named_from i k (q ∷ qs) e =
      named_cond (bytes_eq q.name.text text) i k q qs _ _ (λ j. named_from (i + 1) j qs) (λ j. no_less (i + 1) j (map (λ (p : Procedure). p.name) qs)) e

  pub named_first : (k : ℕ) (qs : List Procedure) → first_index (map (λ q. q.name) qs) text ≡ Some k → procedure_named qs text ≡ slice_get qs k
  named_first k qs e = named_from 0 k qs (e ∙ ap Some (omega arith))

  none_cond : (b : Bool) (i : ℕ) (o : Option ℕ) (q : Procedure) (p : Option Procedure) → (o ≡ None → p ≡ None)
      → cond b (Some i) o ≡ None → cond b (Some q) p ≡ None
  none_cond b i o q p given1 given2 = grind (arith)

  pub named_nowhere : (i : ℕ) (qs : List Procedure) → first_index_from i (map (λ q. q.name) qs) text ≡ None → procedure_named qs text ≡ None
  named_nowhere i [] e = refl
  named_nowhere i (q ∷ qs) e = none_cond (bytes_eq q.name.text text) i _ q _ (named_nowhere (i + 1) qs) e

-- one more name in front of those that a map has
pub first_put : (ns : List Name) (i : ℕ) (n : Name) → slice_get ns i ≡ Some n → (old new : List ℕ → Option ℕ) (key : List ℕ) → key ≡ n.text
    → ((text : List ℕ) → old text ≡ first_index_from (i + 1) (drop (i + 1) ns) text)
    → ((text : List ℕ) → new text ≡ cond (bytes_eq key text) (Some i) (old text)) → (text : List ℕ) → new text ≡ first_index_from i (drop i ns) text
first_put ns i n here old new key spelled before put text =
    let within = slice_get_within ns i n here in
    let is : get_or ns i n ≡ n = grind (arith, slice_get-get_or ns i n within, here) in
    let next : suc i ≡ i + 1 = omega arith in
    let parts : drop i ns ≡ n ∷ drop (i + 1) ns = drop-cons ns i n within ∙ ap (λ x. x ∷ drop (suc i) ns) is ∙ ap (λ k. n ∷ drop k ns) next in
    put text
    ∙ ap (λ k. cond (bytes_eq k text) (Some i) (old text)) spelled
    ∙ ap (λ o. cond (bytes_eq n.text text) (Some i) o) (before text)
    ∙ ap (λ xs. first_index_from i xs text) (sym parts)

-- the result of a look-up by an index
pub got_at : (o : Option (Bor Procedure)) (qs : List Procedure) (k : ℕ) → is_some o ≡ nat_lt k (length qs)
    → IfSome o (λ x. x.now ≡ get_or qs k x.now) → option_copied o ≡ slice_get qs k
got_at o qs k given1 given2 = search (rules, slice_get_past, slice_get-get_or)

-- the name at an index of a list of references
pub name_at : (names : List (Bor Name)) (i : ℕ) (n : Bor Name) → i < length names → n ≡ get_or names i n → slice_get (names_of names) i ≡ Some n.now
name_at names i n given1 given2 = search (rules, slice_get-map, slice_get-get_or)

-- one error at one place
pub finds_one : (error : CheckError) (at : ℕ) → Finds (Only error (λ b. at ≡ b)) (Some (record { error = error; at = at }))
finds_one error at = grind (arith)

module _ (ns : List Name) (error : CheckError) where
  -- names below an index that occur twice
  abbrev pub Below : ℕ → ℕ → Type 0
  Below i at = (k : ℕ) × (n : Name) × (k < i) × IsNameAt ns k n at × (has (take k ns) n.text ≡ true)

  stays_below : (i : ℕ) (at : ℕ) → Below i at → Below (i + 1) at
  stays_below i at (k, n, h, is, e) = (k, n, omega arith, is, e)

  below_or_at : (k i : ℕ) → k < i + 1 → (k < i) ⊎ (k ≡ i)
  below_or_at k i h = grind arith

  pub none_more : (i : ℕ) (n : Name) (best : Option Found) → slice_get ns i ≡ Some n → has (take i ns) n.text ≡ false
      → Finds (Only error (Below i)) best → Finds (Only error (Below (i + 1))) best
  none_more i n best is none = finds_same _ _ best (λ g at x. (x.0, stays_below i at x.1)) (λ g at x. (x.0, earlier at x.1))
    where
      earlier : (at : ℕ) → Below (i + 1) at → Below i at
      earlier at (k, m, h, stands, e) =
          let s : slice_get ns k ≡ Some m = stands.stands in
          elim (below_or_at k i h) [ inl below_i ↦ (k, m, below_i, stands, e) | inr at_i ↦ absurd cc ]

  pub one_more : (i : ℕ) (n : Name) (best : Option Found) → slice_get ns i ≡ Some n → has (take i ns) n.text ≡ true
      → Finds (Only error (Below i)) best → Finds (Only error (Below (i + 1))) (least_of best (Some (record { error = error; at = n.at })))
  one_more i n best is twice h =
      finds_same _ _ _ to from (finds_both (Only error (Below i)) (Only error (λ b. n.at ≡ b)) best _ h (finds_one error n.at))
    where
      to : (g : CheckError) (at : ℕ) → Only error (Below i) g at ⊎ Only error (λ b. n.at ≡ b) g at → Only error (Below (i + 1)) g at
      to g at (inl x) = (x.0, stays_below i at x.1)
      to g at (inr x) = (x.0, (i, n, omega arith, record { stands = is; place = x.1 }, twice))

      from : (g : CheckError) (at : ℕ) → Only error (Below (i + 1)) g at → Only error (Below i) g at ⊎ Only error (λ b. n.at ≡ b) g at
      from g at given1 = grind (arith)

  -- all of them
  pub all_below : (length_is : ℕ) (best : Option Found) → length_is ≡ length ns
      → Finds (Only error (Below length_is)) best → Finds (Only error (IsTwice ns)) best
  all_below length_is best given1 given2 = search (rules, finds_same, slice_get_within)

-- Also over a list of references, as a loop meets them.
module _ (names : List (Bor Name)) (ns : List Name) (error : CheckError) (i : ℕ) (n : Bor Name) (best : Option Found)
    (same : names_of names ≡ ns) (within : i < length names) (is : n ≡ get_or names i n) where
  here : slice_get ns i ≡ Some n.now
  here = ap (λ xs. slice_get xs i) (sym same) ∙ name_at names i n within is

  pub none_here : (text : List ℕ) → text ≡ n.now.text → false ≡ has (take i ns) text
      → Finds (Only error (Below ns error i)) best → Finds (Only error (Below ns error (i + 1))) best
  none_here text e none = none_more ns error i n.now best here cc

  pub one_here : (text : List ℕ) (at : ℕ) → text ≡ n.now.text → at ≡ n.now.at → true ≡ has (take i ns) text
      → Finds (Only error (Below ns error i)) best
      → Finds (Only error (Below ns error (i + 1))) (least_of best (Some (record { error = error; at = at })))
  one_here text at e place twice h = rw place (one_more ns error i n.now best here (cc) h)

pub all_here : (names : List (Bor Name)) (ns : List Name) (error : CheckError) (i : ℕ) (best : Option Found)
    → names_of names ≡ ns → i ≤ length names → length names ≤ i
    → Finds (Only error (Below ns error i)) best → Finds (Only error (IsTwice ns)) best
all_here names ns error i best same low high =
    all_below ns error i best (omega (arith, length-map names (λ (r : Bor Name). r.now), ap (λ (xs : List Name). length xs) same))

-- Uses of names that are not declared.

module _ (declared : List Name) where
  pub same_stray : (Used Uses : Name → Type 0) (o : Option Found) → ((n : Name) → Used n → Uses n)
      → ((n : Name) → Uses n → Used n) → Finds (IsStray declared Used) o → Finds (IsStray declared Uses) o
  same_stray Used Uses o to from =
      finds_same (IsStray declared Used) (IsStray declared Uses) o
      (λ g at x. (x.0, (x.1.0, to x.1.0 x.1.1, x.1.2, x.1.3)))
      (λ g at x. (x.0, (x.1.0, from x.1.0 x.1.1, x.1.2, x.1.3)))

  pub both_stray : (Used Uses : Name → Type 0) (a b : Option Found) → Finds (IsStray declared Used) a
      → Finds (IsStray declared Uses) b → Finds (IsStray declared (λ n. Used n ⊎ Uses n)) (least_of a b)
  both_stray Used Uses a b h k =
      finds_same (λ g at. IsStray declared Used g at ⊎ IsStray declared Uses g at)
      (IsStray declared (λ n. Used n ⊎ Uses n)) (least_of a b) to from
      (finds_both (IsStray declared Used) (IsStray declared Uses) a b h k)
    where
      to : (g : CheckError) (at : ℕ) → IsStray declared Used g at ⊎ IsStray declared Uses g at → IsStray declared (λ n. Used n ⊎ Uses n) g at
      to g at (inl x) = (x.0, (x.1.0, inl x.1.1, x.1.2, x.1.3))
      to g at (inr x) = (x.0, (x.1.0, inr x.1.1, x.1.2, x.1.3))

      from : (g : CheckError) (at : ℕ) → IsStray declared (λ n. Used n ⊎ Uses n) g at → IsStray declared Used g at ⊎ IsStray declared Uses g at
      from g at given1 = grind (arith)

-- One more of a list of things that use names.
module _ (declared : List Name) {X : Type 0} (P : X → Name → Type 0) where
  abbrev pub OfSome : List X → Name → Type 0
  OfSome xs n = (x : X) × Among xs x × P x n

  pub some_more : (xs : List X) (x : X) (a b : Option Found) → Finds (IsStray declared (OfSome xs)) a → Finds (IsStray declared (P x)) b
      → Finds (IsStray declared (OfSome (xs ++ x ∷ []))) (least_of a b)
  some_more xs x a b h k =
      same_stray declared (λ n. OfSome xs n ⊎ P x n) (OfSome (xs ++ x ∷ [])) (least_of a b) to from (both_stray declared (OfSome xs) (P x) a b h k)
    where
      to : (n : Name) → OfSome xs n ⊎ P x n → OfSome (xs ++ x ∷ []) n
      to n (inl (y, m, u)) = (y, Among-front xs (x ∷ []) y m, u)
      to n (inr u) = (x, Among-back xs (x ∷ []) x (inl refl), u)

      last : (y : X) → Among (x ∷ []) y → x ≡ y
      last y given1 = grind (arith)

      from : (n : Name) → OfSome (xs ++ x ∷ []) n → OfSome xs n ⊎ P x n
      from n (y, m, u) =
          elim (Among-split xs (x ∷ []) y m) [ inl f ↦ inl (y, f, u) | inr l ↦ inr (subst (λ z. P z n) (sym (last y l)) u) ]

-- one more expression of a slice
pub expression_more : (declared : List Name) (es : List Expr) (i : ℕ) (e : Expr) (a b : Option Found) → i < length es → e ≡ get_or es i e
    → Finds (IsStray declared (SomeUses (map expression_of (take i es)))) a → Finds (IsStray declared (Uses (expression_of e))) b
    → Finds (IsStray declared (SomeUses (map expression_of (take (i + 1) es)))) (least_of a b)
expression_more declared es i e a b within is h k =
    let grown = ap (map expression_of) (take_more es i e within ∙ ap (λ x. take i es ++ x ∷ []) (sym is)) ∙ map-append expression_of (take i es) (e ∷ []) in
    rw grown (some_more declared Uses (map expression_of (take i es)) (expression_of e) a b h k)

-- one more name of a slice
pub name_more : (declared ns : List Name) (i : ℕ) (n : Name) (a b : Option Found) → i < length ns → n ≡ get_or ns i n
    → Finds (IsStray declared (Among (take i ns))) a → Finds (IsStray declared (λ m. n ≡ m)) b
    → Finds (IsStray declared (Among (take (i + 1) ns))) (least_of a b)
name_more declared ns i n a b within is h k =
    let grown = take_more ns i n within ∙ ap (λ x. take i ns ++ x ∷ []) (sym is) in
    rw grown (same_stray declared (λ m. Among (take i ns) m ⊎ n ≡ m) (Among (take i ns ++ n ∷ []))
    (least_of a b) to from (both_stray declared (Among (take i ns)) (λ m. n ≡ m) a b h k))
  where
    to : (m : Name) → Among (take i ns) m ⊎ n ≡ m → Among (take i ns ++ n ∷ []) m
    to m (inl x) = Among-front (take i ns) (n ∷ []) m x
    to m (inr e) = Among-back (take i ns) (n ∷ []) m (inl e)

    last : (m : Name) → Among (n ∷ []) m → n ≡ m
    last m given1 = grind (arith)

    from : (m : Name) → Among (take i ns ++ n ∷ []) m → Among (take i ns) m ⊎ n ≡ m
    from m x = elim (Among-split (take i ns) (n ∷ []) m x) [ inl f ↦ inl f | inr l ↦ inr (last m l) ]
