-- Each name in a program is spelled as a name, and such a text holds no line feed.
use Rattle.bp_syntax.proofs.Common.{◌≡◌, Bool, true, false, ◌&&◌, refl, ℕ, List, take, Option, Some, ◌≢◌, not, cond, nat_eq, bytes_eq, [], ◌∷◌, is_some, All, inl, inr, sym, ap, subst, ◌∙◌, arith, rules, false≢true, ∥∥₁_elim, Name, Program, Token, fits, kind_of, AllReal, Lexeme, IsCut, ends, fit, open_brace, bad_byte, tokens_of, with_token, is_word_byte, is_braced_byte, is_braced_rest, constants, symbols, long_symbols, reserved_words, word_kind, IsSpelled, TokenKind, NamesInProgram, IsTextOf, HasText}
use Rattle.std.proofs.Math.Bool.{Bool-set}
use Rattle.std.proofs.lemmas.List.Elements.{All-nil, All-cons}
use Rattle.std.specs.List.{list_all}
use Rattle.std.specs.Map.{lookup}
use Rattle.std.specs.Option.{unwrap_or}
use Rattle.bp_syntax.specs.declared.tokens.LexemeKind.{LexemeKind}
use Rattle.bp_syntax.specs.declared.tokens.TokenKind.TheVariants as kind
use Rattle.bp_syntax.specs.declared.tokens.LexemeKind.TheVariants as lexeme
use Rattle.bp_syntax.proofs.NamesOfTokens.{EachNamed, in_program, one_program}

-- Both of two tests pass.

pub both_left : (a b : Bool) → a && b ≡ true → a ≡ true
both_left a b given1 = grind (arith)

pub both_right : (a b : Bool) → a && b ≡ true → b ≡ true
both_right a b given1 = grind (arith)

-- The tokens of a text are real.

real_and : (k : LexemeKind) (o : Option TokenKind) (at : ℕ) (bytes : List ℕ) (ts : List Token) → fits k bytes ≡ true
    → kind_of k bytes ≡ o → AllReal ts → AllReal (with_token o at bytes ts)
real_and k o at bytes ts given1 given2 given3 = grind (arith)

-- the tokens of a text are real
pub all_real : {at : ℕ} {s : List ℕ} {ps : List Lexeme} → IsCut at s ps → AllReal (tokens_of ps)
all_real ends = tt
all_real (fit {at = at} {n = n} {text = s} {kind = k} {more = ps} l c) =
    real_and k (kind_of k (take n s)) at (take n s) (tokens_of ps) l.is_lexeme refl (all_real c)
all_real (open_brace none is c) = all_real c
all_real (bad_byte none never c) = all_real c

-- a word begins with no brace
word_or_braced : (s : List ℕ) → fits lexeme.Identifier s ≡ true → fits lexeme.Braced s ≡ true → ⊥
word_or_braced s given1 given2 = grind (arith)

pub one_spelling : (s : List ℕ) (x y : IsSpelled s) → x ≡ y
one_spelling s (inl x) (inl y) = λ i. inl (Bool-set _ _ x.0 y.0 i, Bool-set _ _ x.1 y.1 i)
one_spelling s (inl x) (inr y) = absurd (word_or_braced s x.0 y)
one_spelling s (inr x) (inl y) = absurd (word_or_braced s y.0 x)
one_spelling s (inr x) (inr y) = λ i. inr (Bool-set _ _ x y i)

abbrev is_name : TokenKind → Bool
is_name kind.Name = true
is_name _ = false

module _ {K : Type 0} (test : K → Bool) where
  found_by : (y : Bool) (x : TokenKind) (o : Option TokenKind) → not (is_name x) ≡ true → (o ≡ Some kind.Name → ⊥) → cond y (Some x) o ≡ Some kind.Name → ⊥
  found_by y x o given1 given2 given3 = grind (arith)

  -- a table of other kinds gives no name
  no_name_in : (t : List (K × TokenKind)) → list_all (λ e. not (is_name e.1)) t ≡ true → lookup test t ≡ Some kind.Name → ⊥
  no_name_in [] others e = let z : ⊥ = cc in z
  no_name_in (a ∷ t) others e = found_by (test a.0) a.1 (lookup test t) (both_left _ _ others) (no_name_in t (both_right _ _ others)) e

  not_in : (o : Option TokenKind) → (o ≡ Some kind.Name → ⊥) → unwrap_or o kind.Name ≡ kind.Name → is_some o ≡ false
  not_in o given1 given2 = grind (arith)

-- a token that is a name is spelled as one
spelled_token : (k : LexemeKind) (s : List ℕ) → fits k s ≡ true → kind_of k s ≡ Some kind.Name → IsSpelled s
spelled_token lexeme.White s h e = let z : ⊥ = cc in absurd z
spelled_token lexeme.Comment s h e = let z : ⊥ = cc in absurd z
spelled_token lexeme.Identifier s h e =
    let is : word_kind s ≡ kind.Name = cc in
    inl (h, not_in (bytes_eq s) _ (no_name_in (bytes_eq s) reserved_words refl) is)
spelled_token lexeme.Braced s h e = inr h
spelled_token lexeme.Constant [] h e = absurd (false≢true h)
spelled_token lexeme.Constant (b ∷ []) h e = absurd (no_name_in (nat_eq b) constants refl e)
spelled_token lexeme.Constant (b ∷ c ∷ bs) h e = absurd (false≢true h)
spelled_token lexeme.Symbol [] h e = absurd (false≢true h)
spelled_token lexeme.Symbol (b ∷ []) h e = absurd (no_name_in (nat_eq b) symbols refl e)
spelled_token lexeme.Symbol (b ∷ c ∷ []) h e =
    absurd (no_name_in (λ (p : ℕ × ℕ). nat_eq b p.0 && nat_eq c p.1) long_symbols refl e)
spelled_token lexeme.Symbol (b ∷ c ∷ d ∷ bs) h e = absurd (false≢true h)

-- a name that is spelled as one
abbrev IsSpelledName : Name → Type 0
IsSpelledName n = IsSpelled n.text

each_named : (ts : List Token) → AllReal ts → EachNamed IsSpelledName ts
each_named [] real = tt
each_named (x ∷ ts) real =
    let r = real.0 in
    (λ is. spelled_token r.lexeme x.text r.fits (r.spells ∙ ap (λ k. Some k) is), each_named ts real.1)

of_text : (text : List ℕ) (p : Program) → IsTextOf text p → NamesInProgram IsSpelledName p
of_text text p is =
    let scanned = is.scanned in
    in_program IsSpelledName is.derives (each_named is.tokens (subst AllReal scanned.tokens (all_real scanned.cut)))

pub spelled_names : (p : Program) → HasText p → NamesInProgram (λ n. IsSpelled n.text) p
spelled_names p of_some = ∥∥₁_elim of_some (one_program IsSpelledName (λ n. one_spelling n.text) p) spelled
  where
    spelled : (text : List ℕ) × IsTextOf text p → NamesInProgram IsSpelledName p
    spelled (text, is) = of_text text p is

-- a byte that passes a test which a line feed does not pass
no_feed : (test : ℕ → Bool) (b : ℕ) → test 10 ≡ false → test b ≡ true → b ≢ 10
no_feed test b fails h e = false≢true (sym fails ∙ ap test (sym e) ∙ h)

word_on_one_line : (bs : List ℕ) → list_all is_word_byte bs ≡ true → All (λ b. b ≢ 10) bs
word_on_one_line [] h = All-nil (λ x. x ≢ 10)
word_on_one_line (b ∷ bs) h = All-cons (λ x. x ≢ 10) b bs (no_feed is_word_byte b refl (both_left _ _ h)) (word_on_one_line bs (both_right _ _ h))

rest_on_one_line : (bs : List ℕ) → is_braced_rest bs ≡ true → All (λ b. b ≢ 10) bs
rest_on_one_line [] h = absurd (false≢true h)
rest_on_one_line (b ∷ []) h = All-cons (λ x. x ≢ 10) b [] (no_feed (λ x. nat_eq x 125) b refl h) (All-nil (λ x. x ≢ 10))
rest_on_one_line (b ∷ c ∷ bs) h =
    All-cons (λ x. x ≢ 10) b (c ∷ bs) (no_feed is_braced_byte b refl (both_left _ _ h))
    (rest_on_one_line (c ∷ bs) (both_right _ _ h))

-- a text that is spelled as a name holds no line feed
pub on_one_line : (s : List ℕ) → IsSpelled s → All (λ b. b ≢ 10) s
on_one_line s given1 = search (rules, no_feed, both_left, word_on_one_line, both_right, rest_on_one_line)
