-- Each text has one cut.
use Rattle.bp_syntax.proofs.Common.{◌≡◌, ℕ, zero, suc, ◌+◌, ◌<◌, ◌≤◌, true, List, [], ◌∷◌, length, take, drop, Some, refl, sym, ap, subst, arith, length-drop, ◌==◌, ◌&&◌, nat_eq, if◌then◌else◌, ◌≢◌, ◌∙◌, Bool, false, Option, None, ◌++◌, ◌-◌, slice_get, append-nil, rules, false≢true, eqb-true, list_all, option_or, fits, IsLongest, NoneFits, Lexeme, Fit, Brace, Bad, IsCut, ends, fit, open_brace, bad_byte, is_letter, is_word_byte, is_braced_byte, is_braced_rest, constants, symbols, long_symbols, kind_of, Token, first_bad_byte, first_open_brace, tokens_of, with_token, HasTokens, HasBadByte, HasOpenName, LexemeKind, TokenKind, IsFirstLexeme, IsFirst, TakesLexeme, IsNameless, FirstLexeme}
use Rattle.bp_syntax.proofs.SpelledNames.{both_left, both_right}
use Rattle.bp_syntax.proofs.GrownLists.{regrouped}
use Rattle.std.proofs.lemmas.Bool.Decides.{nat_tests, Decides-eqb}
use Rattle.std.proofs.lemmas.Str.{IsUtf8-from_ascii}
use Rattle.std.specs.Str.{IsAscii, IsUtf8}
use Rattle.bp_syntax.specs.declared.tokens.LexemeKind.TheVariants as lexeme
use Rattle.bp_syntax.specs.declared.lexemes.FirstLexeme.TheVariants as first
use Rattle.bp_syntax.proofs.LongestLexeme.{has_front, kind_by_first, found, keyed}
use Rattle.bp_syntax.proofs.BracedNames.{nameless_rest}

-- two longest lexemes of one text are one
one_length : (s : List ℕ) (k j : LexemeKind) (m n : ℕ) → IsLongest s k m → IsLongest s j n → m ≡ n
one_length s k j m n given1 given2 = grind (arith)

one_kind : (s : List ℕ) (k j : LexemeKind) (m : ℕ) → 0 < m → m ≤ length s → fits k (take m s) ≡ true → fits j (take m s) ≡ true → k ≡ j
one_kind s k j m given1 given2 given3 given4 = search (rules, kind_by_first)

none_and_some : (s : List ℕ) (k : LexemeKind) (n : ℕ) → NoneFits s → IsLongest s k n → ⊥
none_and_some s k n none l = none k n l.some l.within l.is_lexeme

-- a text has one cut
pub one_cut : (at : ℕ) (s : List ℕ) (ps qs : List Lexeme) → IsCut at s ps → IsCut at s qs → ps ≡ qs
one_cut _ _ _ _ ends ends = refl
one_cut _ _ _ _ ends (fit l c) = let lt = l.some in let le = l.within in absurd (omega arith)
one_cut _ _ _ _ (fit l c) ends = let lt = l.some in let le = l.within in absurd (omega arith)
one_cut _ _ _ _ (fit {at = at} {n = m} {text = s} {kind = k} {more = ps} l c) (fit {n = n} {kind = j} {more = qs} l' c') =
    let e : m ≡ n = one_length s k j m n l l' in
    let f : k ≡ j = one_kind s k j m l.some l.within l.is_lexeme (subst (λ x. fits j (take x s) ≡ true) (sym e) l'.is_lexeme) in
    let ih : ps ≡ qs = one_cut _ _ _ _ c (subst (λ x. IsCut (at + x) (drop x s) qs) (sym e) c') in
    λ i. Fit (f i) at (take (e i) s) ∷ ih i
one_cut _ _ _ _ (fit {n = m} {kind = k} l c) (open_brace none is c') = absurd (none_and_some _ k m none l)
one_cut _ _ _ _ (fit {n = m} {kind = k} l c) (bad_byte none never c') = absurd (none_and_some _ k m none l)
one_cut _ _ _ _ (open_brace none is c) (fit {n = n} {kind = j} l c') = absurd (none_and_some _ j n none l)
one_cut _ _ _ _ (open_brace {at = at} none is c) (open_brace none' is' c') = ap (λ x. Brace at ∷ x) (one_cut _ _ _ _ c c')
one_cut _ _ _ _ (open_brace none is c) (bad_byte none' never c') = absurd (never is)
one_cut _ _ _ _ (bad_byte none never c) (fit {n = n} {kind = j} l c') = absurd (none_and_some _ j n none l)
one_cut _ _ _ _ (bad_byte none never c) (open_brace none' is c') = absurd (never is)
one_cut _ _ _ _ (bad_byte {at = at} none never c) (bad_byte none' never' c') = ap (λ x. Bad at ∷ x) (one_cut _ _ _ _ c c')

-- each text has a cut
has_cut_within : (f at : ℕ) (s : List ℕ) → length s ≤ f → (ps : List Lexeme) × IsCut at s ps
has_cut_within zero at [] le = ([], ends)
has_cut_within zero at (b ∷ bs) le = absurd (omega arith)
has_cut_within (suc f) at [] le = ([], ends)
has_cut_within (suc f) at (b ∷ bs) le = let h = has_front b bs in cut_by h.0 h.1 (has_cut_within f)
  where
    cut_by : (r : FirstLexeme) → IsFirstLexeme (b ∷ bs) r
        → ((at : ℕ) (s : List ℕ) → length s ≤ f → (ps : List Lexeme) × IsCut at s ps)
        → (ps : List Lexeme) × IsCut at (b ∷ bs) ps
    cut_by (first.OpenBrace n) is rest =
        let c = rest (at + 1) bs (omega arith) in
        let same : b ≡ 123 = let h = is.1 in cc in
        (Brace at ∷ c.0, open_brace is.0 same c.1)
    cut_by first.BadByte is rest =
        let c = rest (at + 1) bs (omega arith) in
        (Bad at ∷ c.0, bad_byte is.0 (λ h. is.1 (ap (λ x. Some x) h)) c.1)
    cut_by (first.Fits k n) l rest =
        let lt = l.some in
        let shorter : length (drop n (b ∷ bs)) ≤ f = omega (arith, length-drop n (b ∷ bs)) in
        let c = rest (at + n) (drop n (b ∷ bs)) shorter in
        (Fit k at (take n (b ∷ bs)) ∷ c.0, fit l c.1)

pub has_cut : (at : ℕ) (s : List ℕ) → (ps : List Lexeme) × IsCut at s ps
has_cut at s = has_cut_within (length s) at s (omega arith)

-- The bytes of a token are ASCII, and so they are text.

ascii_cons : (b : ℕ) (bs : List ℕ) → b < 128 → IsAscii bs → IsAscii (b ∷ bs)
ascii_cons b bs given1 given2 = grind (arith)

word_byte_ascii : (b : ℕ) → is_word_byte b ≡ true → b < 128
word_byte_ascii b h = grind (arith, nat_tests)

letter_ascii : (b : ℕ) → is_letter b ≡ true → b < 128
letter_ascii b h = grind (arith, nat_tests)

word_ascii : (bs : List ℕ) → list_all is_word_byte bs ≡ true → IsAscii bs
word_ascii [] h = λ i. omega arith
word_ascii (b ∷ bs) h = ascii_cons b bs (word_byte_ascii b (both_left _ _ h)) (word_ascii bs (both_right _ _ h))

braced_byte_ascii : (b : ℕ) → is_braced_byte b ≡ true → b < 128
braced_byte_ascii b h = grind (arith, nat_tests)

nil_ascii : IsAscii []
nil_ascii i = omega arith

-- the byte is one of the given number
byte_ascii : (b n : ℕ) → (b == n) ≡ true → n < 128 → b < 128
byte_ascii b n e lt = let h = eqb-true b n e in omega arith

closes_ascii : (bs : List ℕ) → is_braced_rest bs ≡ true → IsAscii bs
closes_ascii [] h = absurd (false≢true h)
closes_ascii (b ∷ []) h = ascii_cons b [] (byte_ascii b 125 h (omega arith)) nil_ascii
closes_ascii (b ∷ c ∷ bs) h = ascii_cons b (c ∷ bs) (braced_byte_ascii b (both_left _ _ h)) (closes_ascii (c ∷ bs) (both_right _ _ h))

-- a token has only ASCII bytes
lexeme_ascii : (k : LexemeKind) (s : List ℕ) (kd : TokenKind) → fits k s ≡ true → kind_of k s ≡ Some kd → IsAscii s
lexeme_ascii lexeme.White s kd h e = let z : ⊥ = cc in absurd z
lexeme_ascii lexeme.Comment s kd h e = let z : ⊥ = cc in absurd z
lexeme_ascii lexeme.Identifier [] kd h e = absurd (false≢true h)
lexeme_ascii lexeme.Identifier (b ∷ bs) kd h e = ascii_cons b bs (letter_ascii b (both_left _ _ h)) (word_ascii bs (both_right _ _ h))
lexeme_ascii lexeme.Braced [] kd h e = absurd (false≢true h)
lexeme_ascii lexeme.Braced (b ∷ bs) kd h e = ascii_cons b bs (byte_ascii b 123 (both_left _ _ h) (omega arith)) (closes_ascii bs (both_right _ _ h))
lexeme_ascii lexeme.Constant [] kd h e = absurd (false≢true h)
lexeme_ascii lexeme.Constant (b ∷ []) kd h e = ascii_cons b [] (keyed (λ x. x < 128) b constants (omega arith, (omega arith, tt)) h) nil_ascii
lexeme_ascii lexeme.Constant (b ∷ c ∷ bs) kd h e = absurd (false≢true h)
lexeme_ascii lexeme.Symbol [] kd h e = absurd (false≢true h)
lexeme_ascii lexeme.Symbol (b ∷ []) kd h e =
    ascii_cons b [] (keyed (λ x. x < 128) b symbols
    (omega arith, (omega arith, (omega arith, (omega arith, (omega arith, (omega arith, (omega arith, (omega arith, (omega arith, (omega arith, (omega arith, tt))))))))))) h) nil_ascii
lexeme_ascii lexeme.Symbol (b ∷ c ∷ []) kd h e =
    let f = found (λ (p : ℕ × ℕ). nat_eq b p.0 && nat_eq c p.1) (λ p. (p.0 < 128) × (p.1 < 128)) long_symbols
    ((omega arith, omega arith), ((omega arith, omega arith), ((omega arith, omega arith), tt))) h in
    ascii_cons b (c ∷ []) (subst (λ x. x < 128) (sym (eqb-true b f.0.0 (both_left _ _ f.1))) f.2.0)
    (ascii_cons c [] (subst (λ x. x < 128) (sym (eqb-true c f.0.1 (both_right _ _ f.1))) f.2.1) nil_ascii)
lexeme_ascii lexeme.Symbol (b ∷ c ∷ d ∷ bs) kd h e = absurd (false≢true h)

-- the bytes of a token are text
pub token_is_text : (k : LexemeKind) (s : List ℕ) (kd : TokenKind) → fits k s ≡ true → kind_of k s ≡ Some kd → IsUtf8 s
token_is_text k s kd h e = IsUtf8-from_ascii s (lexeme_ascii k s kd h e)

-- The first lexeme of a text begins its cut.

-- a byte with which no lexeme begins
module _ (b : ℕ) (t : List ℕ) (none : NoneFits (b ∷ t)) (at : ℕ) (more : List Lexeme) (rest : IsCut (at + 1) t more) where
  pub byte_first : (is_brace : Bool) → (b == 123) ≡ is_brace → IsCut at (b ∷ t) ((if is_brace then Brace at else Bad at) ∷ more)
  byte_first true e = open_brace none (eqb-true b 123 e) rest
  byte_first false e = bad_byte none (λ same. false≢true (sym e ∙ (Decides-eqb b 123).1 same)) rest

-- the lexeme of this kind and this size
whole_lexeme : (text : List ℕ) (kind : Option LexemeKind) (size : ℕ) → 0 < length text → IsFirst kind text size
    → TakesLexeme text kind (take size text) (drop size text)
whole_lexeme text (Some kind) size some is = record {
  size = size;
  some = is.some;
  within = is.within;
  front = refl;
  back = refl;
  cut = λ at more rest. fit is rest;
}
whole_lexeme [] None size some is = absurd (omega (arith, some))
whole_lexeme (b ∷ t) None size some is = subst (λ n. TakesLexeme (b ∷ t) None (take n (b ∷ t)) (drop n (b ∷ t))) (sym is.1) (record {
  size = 1;
  some = omega arith;
  within = omega (arith, some);
  front = refl;
  back = refl;
  cut = λ at more rest. byte_first b t is.0 at more rest (b == 123) refl;
})

pub lexeme_is_taken : (text : List ℕ) (kind : Option LexemeKind) (size : ℕ) (bytes rest : List ℕ) → 0 < length text
    → IsFirst kind text size → bytes ≡ take size text → rest ≡ drop size text → TakesLexeme text kind bytes rest
lexeme_is_taken text kind size bytes rest given1 given2 given3 given4 = search (rules, whole_lexeme)

-- The cut of the rest continues the scan so far, also behind one more lexeme.

-- whatever the cut of the rest is, it continues the tokens so far, and the first open brace
pub record Continues (text : List ℕ) (at : ℕ) (rest : List ℕ) (ts : List Token) (brace : Option ℕ) : Type 0 where
  pub place : at + length rest ≡ length text
  pub goes_on : (ps : List Lexeme) → IsCut at rest ps
      → (qs : List Lexeme) × IsCut 0 text qs × (first_bad_byte qs ≡ first_bad_byte ps)
      × (first_open_brace qs ≡ option_or brace (first_open_brace ps)) × (tokens_of qs ≡ ts ++ tokens_of ps)

token_before : (k : Option TokenKind) (at : ℕ) (bytes : List ℕ) (ts : List Token) → with_token k at bytes ts ≡ with_token k at bytes [] ++ ts
token_before k at bytes ts = grind (arith)

or_none : (o : Option ℕ) → option_or o None ≡ o
or_none o = grind (arith)

or_or : (o p : Option ℕ) (x : ℕ) → option_or (option_or o (Some x)) p ≡ option_or o (Some x)
or_or o p x = grind (arith)

-- the facts between two lexemes
abbrev pub Known : List ℕ → ℕ → List ℕ → List Token → Option ℕ → ℕ → Type 0
Known text at rest ts brace nameless = Continues text at rest ts brace × IsNameless nameless rest

nameless_after : (rest after : List ℕ) (n m len : ℕ) → IsNameless n rest → m ≡ n - len → after ≡ drop len rest → IsNameless m after
nameless_after rest after n m len given1 given2 given3 = search (rules, nameless_rest)

one_more : (text : List ℕ) (at : ℕ) (rest after : List ℕ) (ts us : List Token) (brace : Option ℕ) (k : LexemeKind) (len n m : ℕ)
    → Known text at rest ts brace n → IsLongest rest k len → after ≡ drop len rest
    → us ≡ ts ++ with_token (kind_of k (take len rest)) at (take len rest) [] → m ≡ n - len
    → Known text (at + len) after us brace m
one_more text at rest after ts us brace k len n m known l left is fewer = (
  record {
    place =
        let w = l.within in
        let v = known.0.place in
        omega (arith, length-drop len rest, ap length left);
    goes_on = λ ps c.
        let bytes = take len rest in
        let g = known.0.goes_on (Fit k at bytes ∷ ps) (fit l (subst (λ s. IsCut (at + len) s ps) left c)) in (
          g.0,
          g.1,
          g.2,
          g.3,
          g.4 ∙ ap (λ x. ts ++ x) (token_before (kind_of k bytes) at bytes (tokens_of ps))
              ∙ rw is (simp regrouped),
        );
  },
  nameless_after rest after n m len known.1 fewer left,
)

-- also if the values after the lexeme have names of their own
pub lexeme_taken : (text : List ℕ) (at : ℕ) (rest after : List ℕ) (ts us : List Token) (brace next : Option ℕ)
    (k : LexemeKind) (size len n held m : ℕ) → Known text at rest ts brace n → IsLongest rest k size → len ≡ size
    → next ≡ brace → held ≡ n → after ≡ drop len rest
    → us ≡ ts ++ with_token (kind_of k (take size rest)) at (take size rest) [] → m ≡ held - len
    → Known text (at + len) after us next m
lexeme_taken text at rest after ts us brace next k size len n held m known l same_len same_brace same_held left is fewer =
    let here : IsLongest rest k len = subst (IsLongest rest k) (sym same_len) l in
    let tokens = is ∙ ap (λ c. ts ++ with_token (kind_of k (take c rest)) at (take c rest) []) (sym same_len) in
    subst (λ o. Known text (at + len) after us o m) (sym same_brace)
    (one_more text at rest after ts us brace k len n m known here left tokens (fewer ∙ ap (λ c. c - len) same_held))

brace_goes_on : (text : List ℕ) (at : ℕ) (rest after : List ℕ) (ts : List Token) (brace : Option ℕ)
    → Continues text at rest ts brace → NoneFits rest → slice_get rest 0 ≡ Some 123 → after ≡ drop 1 rest
    → Continues text (at + 1) after ts (option_or brace (Some at))
brace_goes_on text at [] after ts brace so_far none is left = let z : ⊥ = cc in absurd z
brace_goes_on text at (b ∷ bs) after ts brace so_far none is left = record {
  place =
      let v = so_far.place in
      omega (arith, ap length left);
  goes_on = λ ps c.
      let same : b ≡ 123 = cc in
      let g = so_far.goes_on (Brace at ∷ ps) (open_brace none same (subst (λ s. IsCut (at + 1) s ps) left c)) in
      (g.0, g.1, g.2, g.3 ∙ sym (or_or brace (first_open_brace ps) at), g.4);
}

pub brace_taken : (text : List ℕ) (at : ℕ) (rest after : List ℕ) (ts us : List Token) (brace next : Option ℕ)
    (count len held m : ℕ) → Continues text at rest ts brace → IsFirstLexeme rest (first.OpenBrace count) → len ≡ 1
    → next ≡ option_or brace (Some at) → held ≡ count → after ≡ drop len rest → us ≡ ts → m ≡ held - len
    → Known text (at + len) after us next m
brace_taken text at rest after ts us brace next count len held m so_far is one or same left tokens fewer =
    let here : after ≡ drop 1 rest = left ∙ ap (λ n. drop n rest) one in
    let goes_on = brace_goes_on text at rest after ts brace so_far is.0 is.1 here in
    let named : Continues text (at + 1) after us next = subst (λ o. Continues text (at + 1) after us o) (sym or)
    (subst (λ l. Continues text (at + 1) after l (option_or brace (Some at))) (sym tokens) goes_on) in
    (subst (λ n. Continues text (at + n) after us next) (sym one) named, nameless_after rest after count m len is.3 (fewer ∙ ap (λ c. c - len) same) left)

-- the scan came to the end
pub record IsWhole (text : List ℕ) (ts : List Token) (brace : Option ℕ) : Type 0 where
  pub lexemes : List Lexeme
  pub cut : IsCut 0 text lexemes
  pub good : first_bad_byte lexemes ≡ None
  pub unclosed : first_open_brace lexemes ≡ brace
  pub tokens : tokens_of lexemes ≡ ts

whole : (text : List ℕ) (at : ℕ) (rest : List ℕ) (ts : List Token) (brace : Option ℕ) → Continues text at rest ts brace
    → length rest ≡ 0 → IsWhole text ts brace
whole text at [] ts brace so_far none =
    let g = so_far.goes_on [] ends in
    record { lexemes = g.0; cut = g.1; good = g.2; unclosed = g.3 ∙ or_none brace; tokens = g.4 ∙ append-nil ts }
whole text at (b ∷ bs) ts brace so_far none = absurd (omega arith)

pub all_scanned : (text : List ℕ) (at : ℕ) (rest : List ℕ) (ts : List Token) (brace : Option ℕ)
    → Continues text at rest ts brace → length rest ≡ 0 → brace ≡ None → HasTokens text ts
all_scanned text at rest ts brace so_far none is =
    let w = whole text at rest ts brace so_far none in
    record { lexemes = w.lexemes; cut = w.cut; good = w.good; closed = w.unclosed ∙ is; tokens = w.tokens }

pub open_there : (text : List ℕ) (at : ℕ) (rest : List ℕ) (ts : List Token) (brace : Option ℕ) (place : ℕ)
    → Continues text at rest ts brace → length rest ≡ 0 → brace ≡ Some place → HasOpenName text place
open_there text at rest ts brace place so_far none is =
    let w = whole text at rest ts brace so_far none in
    record { lexemes = w.lexemes; cut = w.cut; good = w.good; unclosed = w.unclosed ∙ is }

pub bad_here : (text : List ℕ) (at : ℕ) (rest : List ℕ) (ts : List Token) (brace : Option ℕ)
    → Continues text at rest ts brace → 0 < length rest → NoneFits rest → slice_get rest 0 ≢ Some 123
    → HasBadByte text at
bad_here text at [] ts brace so_far some none never = absurd (omega arith)
bad_here text at (b ∷ bs) ts brace so_far some none never =
    let c = has_cut (at + 1) bs in
    let g = so_far.goes_on (Bad at ∷ c.0) (bad_byte none (λ h. never (ap (λ x. Some x) h)) c.1) in
    record { lexemes = g.0; cut = g.1; bad = g.2 }
