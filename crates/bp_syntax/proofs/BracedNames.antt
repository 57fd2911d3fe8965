-- When a brace begins a name, and when it does not.
use Rattle.bp_syntax.proofs.Common.{◌≡◌, ℕ, zero, suc, ◌+◌, ◌-◌, ◌<◌, ◌≤◌, ◌≢◌, Bool, true, false, cond, List, [], ◌∷◌, length, take, drop, Option, Some, refl, subst, arith, drop-drop, slice_get, get_or, nat_eq, nat_lt, Bor, is_some, IfSome, rules, option_copied, option_eq, slice_get_past, slice_get_read, list_all, false≢true, ltb-true, ltb-false, is_braced_byte, is_braced_rest, fits, run, IsNameless}
use Rattle.bp_syntax.proofs.SpelledNames.{both_right}
use Rattle.bp_syntax.specs.declared.tokens.LexemeKind.TheVariants as lexeme

module _ (test : ℕ → Bool) (b : ℕ) (bs : List ℕ) where
  fits_by : (y : Bool) → test b ≡ y → list_all test (take (run test bs) bs) ≡ true → list_all test (take (cond y (suc (run test bs)) 0) (b ∷ bs)) ≡ true
  fits_by y given1 given2 = grind (arith)

  stops_by : (y : Bool) (m : ℕ) → test b ≡ y → cond y (suc (run test bs)) 0 < suc m
      → (run test bs < m → list_all test (take m bs) ≢ true) → list_all test (take (suc m) (b ∷ bs)) ≢ true
  stops_by y m given1 given2 given3 = grind (arith)

  within_by : (y : Bool) → run test bs ≤ length bs → cond y (suc (run test bs)) 0 ≤ suc (length bs)
  within_by y given1 = grind (arith)

-- all bytes of the run pass, and no longer front of the bytes does
pub run_fits : (test : ℕ → Bool) (bs : List ℕ) → list_all test (take (run test bs) bs) ≡ true
run_fits test [] = refl
run_fits test (b ∷ bs) = fits_by test b bs (test b) refl (run_fits test bs)

pub run_stops : (test : ℕ → Bool) (bs : List ℕ) (m : ℕ) → run test bs < m → m ≤ length bs → list_all test (take m bs) ≢ true
run_stops test [] m lt le e = absurd (omega arith)
run_stops test (b ∷ bs) zero lt le e = absurd (omega arith)
run_stops test (b ∷ bs) (suc m) lt le e =
    let le' : m ≤ length bs = omega arith in
    stops_by test b bs (test b) m refl lt (λ more. run_stops test bs m more le') e

pub run_within : (test : ℕ → Bool) (bs : List ℕ) → run test bs ≤ length bs
run_within test [] = omega arith
run_within test (b ∷ bs) = within_by test b bs (test b) (run_within test bs)

-- the number of bytes of a braced name at the front
abbrev pub inside : List ℕ → ℕ
inside bs = run is_braced_byte bs

module _ (b : ℕ) (bs : List ℕ) where
  at_by : (y : Bool) → is_braced_byte b ≡ y
      → (slice_get bs (inside bs) ≡ Some 125 → is_braced_rest (take (suc (inside bs)) bs) ≡ true)
      → slice_get (b ∷ bs) (cond y (suc (inside bs)) 0) ≡ Some 125
      → is_braced_rest (take (suc (cond y (suc (inside bs)) 0)) (b ∷ bs)) ≡ true
  at_by y given1 given2 given3 = grind (arith)

  only_by : (y : Bool) (m : ℕ) → is_braced_byte b ≡ y
      → (is_braced_rest (take m bs) ≡ true → slice_get bs (inside bs) ≡ Some 125)
      → is_braced_rest (b ∷ take m bs) ≡ true → slice_get (b ∷ bs) (cond y (suc (inside bs)) 0) ≡ Some 125
  only_by y m given1 given2 given3 = grind (arith)

  longer_by : (y : Bool) (m : ℕ) → is_braced_byte b ≡ y → suc (cond y (suc (inside bs)) 0) < suc m → m ≤ length bs
      → (suc (inside bs) < m → is_braced_rest (take m bs) ≢ true) → is_braced_rest (b ∷ take m bs) ≢ true
  longer_by y m given1 given2 given3 given4 = grind (arith)

  later_by : (y : Bool) (k : ℕ) → is_braced_byte b ≡ y → suc k ≤ cond y (suc (inside bs)) 0
      → slice_get (b ∷ bs) (cond y (suc (inside bs)) 0) ≢ Some 125
      → (k ≤ inside bs → slice_get bs (inside bs) ≢ Some 125 → slice_get (drop k bs) (inside (drop k bs)) ≢ Some 125)
      → slice_get (drop k bs) (inside (drop k bs)) ≢ Some 125
  later_by y k given1 given2 given3 given4 = grind (arith)

-- a } after the bytes that a name may have closes it
pub closes_at : (bs : List ℕ) → slice_get bs (inside bs) ≡ Some 125 → is_braced_rest (take (suc (inside bs)) bs) ≡ true
closes_at [] e = let z : ⊥ = cc in absurd z
closes_at (b ∷ bs) e = at_by b bs (is_braced_byte b) refl (closes_at bs) e

-- and nothing else does
closed_there : (bs : List ℕ) (m : ℕ) → is_braced_rest (take m bs) ≡ true → slice_get bs (inside bs) ≡ Some 125
closed_there [] zero e = absurd (false≢true e)
closed_there [] (suc m) e = absurd (false≢true e)
closed_there (b ∷ bs) zero e = absurd (false≢true e)
closed_there (b ∷ bs) (suc m) e = only_by b bs (is_braced_byte b) m refl (closed_there bs m) e

pub closes_no_longer : (bs : List ℕ) (m : ℕ) → suc (inside bs) < m → m ≤ length bs → is_braced_rest (take m bs) ≢ true
closes_no_longer [] m lt le e = absurd (omega arith)
closes_no_longer (b ∷ bs) zero lt le e = absurd (omega arith)
closes_no_longer (b ∷ bs) (suc m) lt le e =
    let le' : m ≤ length bs = omega arith in
    longer_by b bs (is_braced_byte b) m refl lt le' (λ more. closes_no_longer bs m more le') e

-- if the run is not closed, none is that begins within it
later : (bs : List ℕ) (k : ℕ) → k ≤ inside bs → slice_get bs (inside bs) ≢ Some 125 → slice_get (drop k bs) (inside (drop k bs)) ≢ Some 125
later bs zero le never = never
later [] (suc k) le never = absurd (omega arith)
later (b ∷ bs) (suc k) le never = later_by b bs (is_braced_byte b) k refl le never (later bs k)

name_closes : (s : List ℕ) (m : ℕ) → fits lexeme.Braced (take m s) ≡ true → (j : ℕ) × (is_braced_rest (take j (drop 1 s)) ≡ true)
name_closes s zero e = absurd (false≢true e)
name_closes [] (suc m) e = absurd (false≢true e)
name_closes (b ∷ s) (suc m) e = (m, both_right _ _ e)

-- no brace of the run begins a name
pub unclosed : (b : ℕ) (bs : List ℕ) → slice_get bs (inside bs) ≢ Some 125 → IsNameless (suc (inside bs)) (b ∷ bs)
unclosed b bs never zero m lt e =
    let f = name_closes (b ∷ bs) m e in
    never (closed_there bs f.0 f.1)
unclosed b bs never (suc k) m lt e =
    let f = name_closes (drop k bs) m e in
    later bs (k + 1) (omega arith) never (closed_there (drop (k + 1) bs) f.0 (subst (λ l. is_braced_rest (take f.0 l) ≡ true) (drop-drop 1 k bs) f.1))

-- the facts of the braces still hold when a lexeme is taken
pub nameless_rest : (n m : ℕ) (s : List ℕ) → IsNameless n s → IsNameless (n - m) (drop m s)
nameless_rest n m s h k j lt e = h (m + k) j (omega arith) (subst (λ l. fits lexeme.Braced (take j l) ≡ true) (drop-drop k m s) e)

-- the byte that was read at the end of the run
pub byte_read : (o : Option (Bor ℕ)) (s : List ℕ) (i : ℕ) → is_some o ≡ nat_lt i (length s)
    → IfSome o (λ x. x.now ≡ get_or s i x.now) → option_copied o ≡ slice_get s i
byte_read o s i given1 given2 = search (rules, slice_get_past, ltb-false, slice_get_read, ltb-true)

pub is_byte : (o : Option ℕ) (b : ℕ) → option_eq nat_eq o (Some b) ≡ true → o ≡ Some b
is_byte o b given1 = grind (arith)

pub other_byte : (o : Option ℕ) (b : ℕ) → option_eq nat_eq o (Some b) ≡ false → o ≢ Some b
other_byte o b given1 = grind (arith)
