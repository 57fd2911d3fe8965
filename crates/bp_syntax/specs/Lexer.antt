-- Devices of the lexer, and of the two counts of its tokens. No public contract names them.
use Rattle.std.specs.Prelude.{if◌then◌else◌, ◌≡◌, ◌<◌, ◌≤◌, ◌==◌, ℕ, ◌+◌, List, [], ◌∷◌, Option, None, Some, length, take, drop, ◌≢◌, suc, Bool, true, false, is_some, slice_get, nat_lt, nat_le, map}
use Rattle.bp_syntax.specs.Tokens.{Lexeme, Fit, Brace, Bad, IsCut, IsLongest, NoneFits, is_white, is_letter, is_word_byte, is_comment_byte, is_braced_byte, constant, symbol, long_symbol, fits, HasBadByte, HasOpenName, Token}
use Rattle.bp_syntax.specs.declared.tokens.LexemeKind.{LexemeKind}
use Rattle.bp_syntax.specs.declared.tokens.LexemeKind.TheVariants as lexeme
use Rattle.bp_syntax.specs.declared.limits.TheConstants.{SUCCESSION_LIMIT, NESTING_LIMIT}
use Rattle.bp_syntax.specs.Texts.{is_separator, depth_after}
use Rattle.bp_syntax.specs.declared.errors.ReadError.{ReadError}
use Rattle.bp_syntax.specs.declared.errors.ReadError.TheVariants as error
use Rattle.bp_syntax.specs.declared.lexemes.FirstLexeme.{FirstLexeme}
use Rattle.bp_syntax.specs.declared.lexemes.FirstLexeme.TheVariants as first
use Rattle.bp_syntax.specs.declared.tokens.Token.{Token as BorrowedToken}

-- The first lexeme of a text, and the cut that begins with it.

-- the lexeme of these bytes at a place: a lexeme of this kind, or a byte if none fits
abbrev pub lexeme_of : Option LexemeKind → ℕ → List ℕ → Lexeme
lexeme_of (Some kind) at bytes = Fit kind at bytes
lexeme_of None at [] = Bad at
lexeme_of None at (b ∷ bs) = if b == 123 then Brace at else Bad at

-- a device: the first lexeme of a text has this kind and this size
abbrev pub IsFirst : Option LexemeKind → List ℕ → ℕ → Type 0
IsFirst (Some kind) text size = IsLongest text kind size
IsFirst None text size = NoneFits text × (size ≡ 1)

-- the lexeme of this kind and these bytes begins the text, and the rest follows: each cut of the
-- rest, with this lexeme before it, is one of the text
pub record TakesLexeme (text : List ℕ) (kind : Option LexemeKind) (bytes rest : List ℕ)
    : Type 0 where
  pub size : ℕ
  pub some : 0 < size
  pub within : size ≤ length text
  pub front : bytes ≡ take size text
  pub back : rest ≡ drop size text
  pub cut : (at : ℕ) (more : List Lexeme)
      → IsCut (at + size) rest more
      → IsCut at text (lexeme_of kind at bytes ∷ more)

-- A device: the lexer as the code does it. No public contract names it.

-- a lexeme of the kind, once begun, continues with this byte
abbrev pub is_continuation : LexemeKind → ℕ → Bool
is_continuation lexeme.Identifier b = is_word_byte b
is_continuation lexeme.Comment b = is_comment_byte b
is_continuation lexeme.Braced b = is_braced_byte b
is_continuation _ b = false

-- the number of bytes at the start of s that pass the test
abbrev pub run : (ℕ → Bool) → List ℕ → ℕ
run test [] = 0
run test (b ∷ bs) = if test b then suc (run test bs) else 0

-- the comment of a slash before s, and its length
abbrev pub comment : List ℕ → Option (LexemeKind × ℕ)
comment [] = None
comment (b ∷ bs) =
    if b == 47 then Some (lexeme.Comment, suc (suc (run is_comment_byte bs)))
    else None

-- the symbol at the start of s
abbrev pub first_symbol : ℕ → List ℕ → Option (LexemeKind × ℕ)
first_symbol b [] = if is_some (symbol b) then Some (lexeme.Symbol, 1) else None
first_symbol b (c ∷ cs) =
    if is_some (long_symbol b c) then Some (lexeme.Symbol, 2)
    else if is_some (symbol b) then Some (lexeme.Symbol, 1)
    else None

-- the longest lexeme at the start of b and then s, if that is not a braced name, and its length
abbrev pub unbraced_lexeme : ℕ → List ℕ → Option (LexemeKind × ℕ)
unbraced_lexeme b s =
    if is_letter b then Some (lexeme.Identifier, suc (run is_word_byte s))
    else if is_white b then Some (lexeme.White, 1)
    else if is_some (constant b) then Some (lexeme.Constant, 1)
    else if b == 47 then comment s
    else first_symbol b s

-- in the first n bytes of s no braced name begins
abbrev pub IsNameless : ℕ → List ℕ → Type 0
IsNameless n s = (k m : ℕ) → k < n → fits lexeme.Braced (take m (drop k s)) ≢ true

-- s begins with this first lexeme
abbrev pub IsFirstLexeme : List ℕ → FirstLexeme → Type 0
IsFirstLexeme s (first.Fits lexeme n) = IsLongest s lexeme n
IsFirstLexeme s (first.OpenBrace n) =
    NoneFits s × (slice_get s 0 ≡ Some 123) × (0 < n) × IsNameless n s
IsFirstLexeme s first.BadByte = NoneFits s × (slice_get s 0 ≢ Some 123)

-- how the scan is refused
abbrev pub IsScanError : List ℕ → ReadError → Type 0
IsScanError text (error.BadByte at) = HasBadByte text at
IsScanError text (error.OpenName at) = HasOpenName text at
IsScanError text error.Memory = Unit {0}
IsScanError text _ = ⊥

-- A device: the count of tokens in succession as the code does it. No public contract names it.

-- the place of the first token too many, if n tokens come before these
abbrev pub first_too_many : ℕ → List Token → Option ℕ
first_too_many n [] = None
first_too_many n (t ∷ ts) =
    if is_separator t.kind then first_too_many 0 ts
    else if nat_lt n SUCCESSION_LIMIT then first_too_many (n + 1) ts
    else Some t.at

-- A device: the count of the depth as the code does it. No public contract names it.

-- the place of the first token that is too deep, if the depth is n before these
abbrev pub first_too_deep : ℕ → List Token → Option ℕ
first_too_deep n [] = None
first_too_deep n (t ∷ ts) =
    if nat_le (depth_after t.kind n) NESTING_LIMIT then first_too_deep (depth_after t.kind n) ts
    else Some t.at

-- The models of the tokens of src/: a token of the code borrows its text.

abbrev pub token_of : BorrowedToken → Token
token_of t = record { kind = t.kind; at = t.at; text = t.text.now }

abbrev pub token_list : List BorrowedToken → List Token
token_list ts = map token_of ts
