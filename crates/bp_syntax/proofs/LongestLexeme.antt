-- The longest lexeme that begins a text.
use Rattle.bp_syntax.proofs.Common.{◌≡◌, ℕ, zero, suc, ◌+◌, ◌<◌, ◌≤◌, ◌≢◌, ◌==◌, ⊎_elim, Bool, true, false, cond, ◌&&◌, ◌||◌, List, [], ◌∷◌, length, take, drop, Option, Some, None, refl, sym, ap, subst, ◌∙◌, arith, take_all, nat_eq, slice_get, get_or, ◌-◌, is_some, MatchOption, rules, list_any, list_all, lookup, false≢true, cases_eq, eqb-true, ne_eqb, slice_get_within, slice_get-get_or, is_white, is_letter, is_word_byte, is_comment_byte, constant, symbol, long_symbol, fits, whites, constants, IsLongest, NoneFits, run, comment, first_symbol, unbraced_lexeme, IsNameless, IsFirstLexeme, FirstLexeme, TokenKind, LexemeKind}
use Rattle.bp_syntax.proofs.SpelledNames.{both_left, both_right}
use Rattle.bp_syntax.specs.declared.lexemes.FirstLexeme.TheVariants as first
use Rattle.bp_syntax.specs.declared.tokens.LexemeKind.TheVariants as lexeme
use Rattle.bp_syntax.proofs.BracedNames.{inside, run_fits, run_stops, run_within, closes_at, closes_no_longer, unclosed}

-- P of each key of a table
abbrev pub Keys : {K X : Type 0} → (K → Type 0) → List (K × X) → Type 0
Keys P [] = Unit {0}
Keys P (e ∷ es) = P e.0 × Keys P es

module _ {K X : Type 0} (test : K → Bool) (P : K → Type 0) where
  found_by : (k : K) (x : X) (es : List (K × X)) (y : Bool) → test k ≡ y → P k
      → (is_some (lookup test es) ≡ true → (j : K) × (test j ≡ true) × P j)
      → is_some (cond y (Some x) (lookup test es)) ≡ true → (j : K) × (test j ≡ true) × P j
  found_by k x es y given1 given2 given3 given4 = grind (arith)

  -- an element found in a table is one of its keys
  pub found : (t : List (K × X)) → Keys P t → is_some (lookup test t) ≡ true → (j : K) × (test j ≡ true) × P j
  found [] ks e = absurd (false≢true e)
  found (a ∷ es) ks e = found_by a.0 a.1 es (test a.0) refl ks.0 (found es ks.1) e

-- P of each of the numbers
abbrev Each : (ℕ → Type 0) → List ℕ → Type 0
Each P [] = Unit {0}
Each P (x ∷ xs) = P x × Each P xs

among_by : (P : ℕ → Type 0) (b x : ℕ) (xs : List ℕ) (y : Bool) → nat_eq b x ≡ y → P x
    → (list_any (nat_eq b) xs ≡ true → P b) → (y || list_any (nat_eq b) xs) ≡ true → P b
among_by P b x xs y given1 given2 given3 given4 = grind (arith)

among : (P : ℕ → Type 0) (b : ℕ) (xs : List ℕ) → Each P xs → list_any (nat_eq b) xs ≡ true → P b
among P b [] ps e = absurd (false≢true e)
among P b (x ∷ xs) ps e = among_by P b x xs (nat_eq b x) refl ps.0 (among P b xs ps.1) e

pub keyed : (P : ℕ → Type 0) (b : ℕ) (t : List (ℕ × TokenKind)) → Keys P t → is_some (lookup (nat_eq b) t) ≡ true → P b
keyed P b t ks e = let f = found (nat_eq b) P t ks e in subst P (sym (eqb-true b f.0 f.1)) f.2

-- the kind of a lexeme, by its first byte
abbrev first_kind : ℕ → Option LexemeKind
first_kind b =
    cond (is_letter b) (Some lexeme.Identifier)
    (cond (is_white b) (Some lexeme.White)
    (cond (is_some (constant b)) (Some lexeme.Constant)
    (cond (is_some (symbol b)) (Some lexeme.Symbol) (cond (b == 47) (Some lexeme.Comment) (cond (b == 123) (Some lexeme.Braced) None)))))

white_first : (b : ℕ) → is_white b ≡ true → first_kind b ≡ Some lexeme.White
white_first b e = among (λ x. first_kind x ≡ Some lexeme.White) b whites (refl, (refl, (refl, (refl, tt)))) e

constant_first : (b : ℕ) → is_some (constant b) ≡ true → first_kind b ≡ Some lexeme.Constant
constant_first b e = keyed (λ x. first_kind x ≡ Some lexeme.Constant) b constants (refl, (refl, tt)) e

symbol_first : (b : ℕ) → is_some (symbol b) ≡ true → first_kind b ≡ Some lexeme.Symbol
symbol_first b given1 = search (rules, keyed)

long_symbol_first : (b c : ℕ) → is_some (long_symbol b c) ≡ true → first_kind b ≡ Some lexeme.Symbol
long_symbol_first b c given1 = search (rules, found, eqb-true, both_left)

letter_first : (b : ℕ) → is_letter b ≡ true → first_kind b ≡ Some lexeme.Identifier
letter_first b given1 = grind (arith)

comment_first : (b : ℕ) → (b == 47) ≡ true → first_kind b ≡ Some lexeme.Comment
comment_first b e = ap first_kind (eqb-true b 47 e)

braced_first : (b : ℕ) → (b == 123) ≡ true → first_kind b ≡ Some lexeme.Braced
braced_first b e = ap first_kind (eqb-true b 123 e)

-- a lexeme's kind is that of its first byte
pub kind_by_first : (k : LexemeKind) (b : ℕ) (bs : List ℕ) → fits k (b ∷ bs) ≡ true → first_kind b ≡ Some k
kind_by_first lexeme.White b [] e = white_first b e
kind_by_first lexeme.White b (c ∷ cs) e = absurd (false≢true e)
kind_by_first lexeme.Comment b [] e = absurd (false≢true e)
kind_by_first lexeme.Comment b (c ∷ cs) e = comment_first b (both_left _ _ e)
kind_by_first lexeme.Identifier b bs e = letter_first b (both_left _ _ e)
kind_by_first lexeme.Braced b bs e = braced_first b (both_left _ _ e)
kind_by_first lexeme.Constant b [] e = constant_first b e
kind_by_first lexeme.Constant b (c ∷ cs) e = absurd (false≢true e)
kind_by_first lexeme.Symbol b [] e = symbol_first b e
kind_by_first lexeme.Symbol b (c ∷ []) e = long_symbol_first b c e
kind_by_first lexeme.Symbol b (c ∷ d ∷ ds) e = absurd (false≢true e)

-- a lexeme is the longest if its kind fits nothing longer
longest_of : (k : LexemeKind) (b : ℕ) (bs : List ℕ) (n : ℕ) → n ≤ length bs → fits k (b ∷ take n bs) ≡ true
    → ((m : ℕ) → n < m → m ≤ length bs → fits k (b ∷ take m bs) ≢ true) → IsLongest (b ∷ bs) k (suc n)
longest_of k b bs n within is none = record {
  some = omega arith;
  within = omega arith;
  is_lexeme = is;
  no_longer = longer;
}
  where
    same : (j : LexemeKind) (r : List ℕ) → fits j (b ∷ r) ≡ true → j ≡ k
    same j r e =
        let p : first_kind b ≡ Some j = kind_by_first j b r e in
        let q : first_kind b ≡ Some k = kind_by_first k b (take n bs) is in
        cc

    longer : (other : LexemeKind) (m : ℕ) → suc n < m → m ≤ length (b ∷ bs) → fits other (take m (b ∷ bs)) ≢ true
    longer other zero lt le e = absurd (omega arith)
    longer other (suc m) lt le e =
        none m (omega arith) (omega arith) (subst (λ j. fits j (b ∷ take m bs) ≡ true) (same other (take m bs) e) e)

-- nothing fits if the kind of the first byte does not
none_of : (k : LexemeKind) (b : ℕ) (bs : List ℕ) → first_kind b ≡ Some k → ((m : ℕ) → fits k (b ∷ take m bs) ≢ true) → NoneFits (b ∷ bs)
none_of k b bs first none j zero lt le e = absurd (omega arith)
none_of k b bs first none j (suc m) lt le e =
    let p : first_kind b ≡ Some j = kind_by_first j b (take m bs) e in
    let same : j ≡ k = cc in
    none m (subst (λ i. fits i (b ∷ take m bs) ≡ true) same e)

none_first : (b : ℕ) (bs : List ℕ) → first_kind b ≡ None → NoneFits (b ∷ bs)
none_first b bs given1 = search (rules, kind_by_first)

identifier : (b : ℕ) (bs : List ℕ) → is_letter b ≡ true → IsLongest (b ∷ bs) lexeme.Identifier (suc (run is_word_byte bs))
identifier b bs l =
    longest_of lexeme.Identifier b bs (run is_word_byte bs) (run_within is_word_byte bs)
    (ap (λ y. y && list_all is_word_byte (take (run is_word_byte bs) bs)) l ∙ run_fits is_word_byte bs)
    (λ m lt le e. run_stops is_word_byte bs m lt le (both_right _ _ e))

-- a lexeme of one byte
one_byte : (k : LexemeKind) (b : ℕ) (bs : List ℕ) → fits k (b ∷ []) ≡ true
    → ((c : ℕ) (r cs : List ℕ) → bs ≡ c ∷ cs → fits k (b ∷ c ∷ r) ≢ true) → IsLongest (b ∷ bs) k 1
one_byte k b bs f never = longest_of k b bs 0 (omega arith) f (more bs never)
  where
    more : (bs : List ℕ) → ((c : ℕ) (r cs : List ℕ) → bs ≡ c ∷ cs → fits k (b ∷ c ∷ r) ≢ true) → (m : ℕ) → 0 < m → m ≤ length bs → fits k (b ∷ take m bs) ≢ true
    more bs never zero lt le e = absurd (omega arith)
    more [] never (suc m) lt le e = absurd (omega arith)
    more (c ∷ cs) never (suc m) lt le e = never c (take m cs) cs refl e

two_bytes : (b c : ℕ) (cs : List ℕ) → is_some (long_symbol b c) ≡ true → IsLongest (b ∷ c ∷ cs) lexeme.Symbol 2
two_bytes b c cs f = longest_of lexeme.Symbol b (c ∷ cs) 1 (omega arith) f (more cs)
  where
    more : (cs : List ℕ) (m : ℕ) → 1 < m → m ≤ length (c ∷ cs) → fits lexeme.Symbol (b ∷ take m (c ∷ cs)) ≢ true
    more cs zero lt le e = absurd (omega arith)
    more cs (suc zero) lt le e = absurd (omega arith)
    more [] (suc (suc m)) lt le e = absurd (omega arith)
    more (d ∷ ds) (suc (suc m)) lt le e = false≢true e

-- the resulting lexeme is the longest, and there is none if none fits
abbrev IsLongestAnswer : List ℕ → Option (LexemeKind × ℕ) → Type 0
IsLongestAnswer s r = MatchOption r (NoneFits s) (λ p. IsLongest s p.0 p.1)

slashes : (b c : ℕ) (cs : List ℕ) → (b == 47) ≡ true → (c == 47) ≡ true → IsLongest (b ∷ c ∷ cs) lexeme.Comment (suc (suc (run is_comment_byte cs)))
slashes b c cs f g = longest_of lexeme.Comment b (c ∷ cs) (suc n) (omega (arith, run_within is_comment_byte cs)) is longer
  where
    n : ℕ
    n = run is_comment_byte cs

    is : fits lexeme.Comment (b ∷ c ∷ take (run is_comment_byte cs) cs) ≡ true
    is = search (rules, run_fits)

    longer : (m : ℕ) → suc (run is_comment_byte cs) < m → m ≤ length (c ∷ cs) → fits lexeme.Comment (b ∷ take m (c ∷ cs)) ≢ true
    longer zero lt le e = absurd (omega arith)
    longer (suc m) lt le e = run_stops is_comment_byte cs m (omega arith) (omega arith) (both_right _ _ (both_right _ _ e))

lone_slash : (b c : ℕ) (cs : List ℕ) → (b == 47) ≡ true → (c == 47) ≡ false → NoneFits (b ∷ c ∷ cs)
lone_slash b c cs f g = none_of lexeme.Comment b (c ∷ cs) (comment_first b f) none
  where
    none : (m : ℕ) → fits lexeme.Comment (b ∷ take m (c ∷ cs)) ≢ true
    none zero e = false≢true e
    none (suc m) e = false≢true (sym g ∙ both_left _ _ (both_right _ _ e))

last_slash : (b : ℕ) → (b == 47) ≡ true → NoneFits (b ∷ [])
last_slash b f = none_of lexeme.Comment b [] (comment_first b f) none
  where
    none : (m : ℕ) → fits lexeme.Comment (b ∷ take m []) ≢ true
    none zero e = false≢true e
    none (suc m) e = false≢true e

slash_by : (b c : ℕ) (cs : List ℕ) (y : Bool) → (b == 47) ≡ true → (c == 47) ≡ y
    → IsLongestAnswer (b ∷ c ∷ cs) (cond y (Some (lexeme.Comment, suc (suc (run is_comment_byte cs)))) None)
slash_by b c cs y given1 given2 = search (rules, slashes, lone_slash)

comment_is : (b : ℕ) (bs : List ℕ) → (b == 47) ≡ true → IsLongestAnswer (b ∷ bs) (comment bs)
comment_is b bs given1 = search (rules, last_slash, slash_by)

-- no symbol of two bytes is here
abbrev NoLong : ℕ → List ℕ → Type 0
NoLong b [] = Unit {0}
NoLong b (c ∷ cs) = is_some (long_symbol b c) ≡ false

no_long : (b c : ℕ) (r bs cs : List ℕ) → NoLong b bs → bs ≡ c ∷ cs → fits lexeme.Symbol (b ∷ c ∷ r) ≢ true
no_long b c r bs cs given1 given2 = grind (arith)

module _ (b : ℕ) (no_brace : (b == 123) ≡ false) where
  no_sort : is_letter b ≡ false → is_white b ≡ false → is_some (constant b) ≡ false → is_some (symbol b) ≡ false → (b == 47) ≡ false → first_kind b ≡ None
  no_sort l w c s d = grind (arith, no_brace)

  module _ (l : is_letter b ≡ false) (w : is_white b ≡ false) (k : is_some (constant b) ≡ false) (d : (b == 47) ≡ false) where
    short_by : (bs : List ℕ) (y : Bool) → is_some (symbol b) ≡ y → NoLong b bs → IsLongestAnswer (b ∷ bs) (cond y (Some (lexeme.Symbol, 1)) None)
    short_by bs true s n = one_byte lexeme.Symbol b bs s (λ c r cs is. no_long b c r bs cs n is)
    short_by bs false s n = none_first b bs (no_sort l w k s d)

    long_by : (c : ℕ) (cs : List ℕ) (y : Bool) → is_some (long_symbol b c) ≡ y
        → IsLongestAnswer (b ∷ c ∷ cs)
        (cond y (Some (lexeme.Symbol, 2)) (cond (is_some (symbol b)) (Some (lexeme.Symbol, 1)) None))
    long_by c cs y given1 = search (rules, two_bytes, short_by)

    symbol_is : (bs : List ℕ) → IsLongestAnswer (b ∷ bs) (first_symbol b bs)
    symbol_is bs = search (rules, short_by, long_by)

  comment_by : (bs : List ℕ) (y : Bool) → is_letter b ≡ false → is_white b ≡ false → is_some (constant b) ≡ false
      → (b == 47) ≡ y → IsLongestAnswer (b ∷ bs) (cond y (comment bs) (first_symbol b bs))
  comment_by bs y given1 given2 given3 given4 = search (rules, comment_is, symbol_is)

  constant_by : (bs : List ℕ) (y : Bool) → is_letter b ≡ false → is_white b ≡ false → is_some (constant b) ≡ y
      → IsLongestAnswer (b ∷ bs) (cond y (Some (lexeme.Constant, 1)) (cond (b == 47) (comment bs) (first_symbol b bs)))
  constant_by bs true l w k = one_byte lexeme.Constant b bs k (λ c r cs is e. false≢true e)
  constant_by bs false l w k = comment_by bs (b == 47) l w k refl

  white_by : (bs : List ℕ) (y : Bool) → is_letter b ≡ false → is_white b ≡ y
      → IsLongestAnswer (b ∷ bs) (cond y (Some (lexeme.White, 1))
      (cond (is_some (constant b)) (Some (lexeme.Constant, 1)) (cond (b == 47) (comment bs) (first_symbol b bs))))
  white_by bs true l w = one_byte lexeme.White b bs w (λ c r cs is e. false≢true e)
  white_by bs false l w = constant_by bs (is_some (constant b)) l w refl

  letter_by : (bs : List ℕ) (y : Bool) → is_letter b ≡ y
      → IsLongestAnswer (b ∷ bs) (cond y (Some (lexeme.Identifier, suc (run is_word_byte bs)))
      (cond (is_white b) (Some (lexeme.White, 1))
      (cond (is_some (constant b)) (Some (lexeme.Constant, 1)) (cond (b == 47) (comment bs) (first_symbol b bs)))))
  letter_by bs y given1 = search (rules, identifier, white_by)

  -- the code's answer is the longest lexeme
  unbraced_is : (bs : List ℕ) → IsLongestAnswer (b ∷ bs) (unbraced_lexeme b bs)
  unbraced_is bs = letter_by bs (is_letter b) refl

-- a text's longest lexeme, from its first byte and those after it
pub unbraced_longest : (s : List ℕ) (r : Option (LexemeKind × ℕ)) → 0 < length s → (get_or s 0 0 ≡ 123 → ⊥)
    → r ≡ unbraced_lexeme (get_or s 0 0) (take (length s - 1) (drop 1 s)) → IsLongestAnswer s r
unbraced_longest s r given1 given2 given3 = search (rules, take_all, unbraced_is, ne_eqb)

-- a brace that is closed begins a name
pub closed_name : (bs : List ℕ) (n : ℕ) → n ≡ inside bs → slice_get bs n ≡ Some 125 → IsLongest (123 ∷ bs) lexeme.Braced (n + 2)
closed_name bs n is e =
    let close : slice_get bs (inside bs) ≡ Some 125 = ap (slice_get bs) (sym is) ∙ e in
    let size : suc (suc (inside bs)) ≡ n + 2 = omega arith in
    subst (IsLongest (123 ∷ bs) lexeme.Braced) size
    (longest_of lexeme.Braced 123 bs (suc (inside bs)) (omega (arith, slice_get_within bs (inside bs) 125 close)) (closes_at bs close)
    (λ m lt le f. closes_no_longer bs m lt le f))

-- nothing fits at a brace that begins no name
pub open_none : (s : List ℕ) (n : ℕ) → slice_get s 0 ≡ Some 123 → 0 < n → IsNameless n s → NoneFits s
open_none [] n is lt never = let z : ⊥ = cc in absurd z
open_none (b ∷ bs) n is lt never =
    let same : b ≡ 123 = cc in
    none_of lexeme.Braced b bs (ap first_kind same) (λ m e. never 0 (suc m) lt e)

pub open_front : (s : List ℕ) (n : ℕ) → slice_get s 0 ≡ Some 123 → 0 < n → IsNameless n s → IsFirstLexeme s (first.OpenBrace n)
open_front s n is lt never = (open_none s n is lt never, is, lt, never)

pub unclosed_front : (bs : List ℕ) (n : ℕ) → n ≡ inside bs → slice_get bs n ≢ Some 125 → IsFirstLexeme (123 ∷ bs) (first.OpenBrace (n + 1))
unclosed_front bs n is never =
    let size : suc (inside bs) ≡ n + 1 = omega arith in
    let here : slice_get bs (inside bs) ≢ Some 125 = λ h. never (ap (slice_get bs) is ∙ h) in
    open_front (123 ∷ bs) (n + 1) refl (omega arith) (subst (λ m. IsNameless m (123 ∷ bs)) size (unclosed 123 bs here))

pub brace_first : (s : List ℕ) → 0 < length s → get_or s 0 0 ≡ 123 → slice_get s 0 ≡ Some 123
brace_first s lt e = slice_get-get_or s 0 0 lt ∙ ap (λ x. Some x) e

pub other_first : (s : List ℕ) → 0 < length s → (get_or s 0 0 ≡ 123 → ⊥) → slice_get s 0 ≢ Some 123
other_first s given1 given2 = search (rules, slice_get-get_or)

-- each text that isn't empty begins in one of the ways
has_front_braced : (bs : List ℕ) (o : Option ℕ) → slice_get bs (inside bs) ≡ o → (f : FirstLexeme) × IsFirstLexeme (123 ∷ bs) f
has_front_braced bs None e = (first.OpenBrace (inside bs + 1), unclosed_front bs (inside bs) refl (λ h. let z : ⊥ = cc in z))
has_front_braced bs (Some x) e =
    ⊎_elim
    (λ h. (first.Fits lexeme.Braced (inside bs + 2), closed_name bs (inside bs) refl (e ∙ ap (λ y. Some y) h)))
    (λ never. (first.OpenBrace (inside bs + 1), unclosed_front bs (inside bs) refl (λ h. never (let z : x ≡ 125 = cc in z))))
    (cases_eq x 125)

not_brace : (b : ℕ) → (b == 123) ≡ false → Some b ≢ Some 123
not_brace b given1 = grind (arith)

has_front_by : (b : ℕ) (bs : List ℕ) (y : Bool) → (b == 123) ≡ y → (f : FirstLexeme) × IsFirstLexeme (b ∷ bs) f
has_front_by b bs true e =
    subst (λ x. (f : FirstLexeme) × IsFirstLexeme (x ∷ bs) f) (sym (eqb-true b 123 e))
    (has_front_braced bs (slice_get bs (inside bs)) refl)
has_front_by b bs false e = of_found (unbraced_lexeme b bs) (unbraced_is b e bs)
  where
    of_found : (r : Option (LexemeKind × ℕ)) → IsLongestAnswer (b ∷ bs) r → (f : FirstLexeme) × IsFirstLexeme (b ∷ bs) f
    of_found None none = (first.BadByte, (none, not_brace b e))
    of_found (Some p) l = (first.Fits p.0 p.1, l)

pub has_front : (b : ℕ) (bs : List ℕ) → (f : FirstLexeme) × IsFirstLexeme (b ∷ bs) f
has_front b bs = has_front_by b bs (b == 123) refl
