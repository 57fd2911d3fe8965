-- Tokens: the bytes of each kind, and how a text is cut into lexemes.
use Rattle.std.specs.Prelude.{◌≡◌, ◌⊎◌, ℕ, Bool, true, false, not, ◌||◌, ◌&&◌, ◌==◌, nat_eq, nat_le, is_some, List, [], ◌∷◌, Option, Some, None, codes, ◌+◌, ◌<◌, ◌≤◌, ◌≢◌, length, take, drop}
use Rattle.std.specs.Char.{is_ascii_alphabetic, is_ascii_alphanumeric}
use Rattle.std.specs.List.{list_any, list_all}
use Rattle.std.specs.Map.{lookup}
use Rattle.std.specs.Str.{bytes_eq}
use Rattle.std.specs.Option.{unwrap_or}
use Rattle.bp_syntax.specs.declared.tokens.TokenKind.{TokenKind}
use Rattle.bp_syntax.specs.declared.tokens.TokenKind.TheVariants as kind
use Rattle.bp_syntax.specs.declared.tokens.LexemeKind.{LexemeKind}
use Rattle.bp_syntax.specs.declared.tokens.LexemeKind.TheVariants as lexeme

-- The bytes of each kind of lexeme, and of each kind of token.

-- space, tab, line feed, carriage return
abbrev pub whites : List ℕ
whites = 32 ∷ 9 ∷ 10 ∷ 13 ∷ []

abbrev pub is_white : ℕ → Bool
is_white b = list_any (nat_eq b) whites

-- a letter or an underscore: the first byte of an identifier
abbrev pub is_letter : ℕ → Bool
is_letter b = is_ascii_alphabetic b || b == 95

-- a letter, an underscore or a digit: a further byte of an identifier
abbrev pub is_word_byte : ℕ → Bool
is_word_byte b = is_ascii_alphanumeric b || b == 95

-- any byte but a line feed: a further byte of a comment
abbrev pub is_comment_byte : ℕ → Bool
is_comment_byte b = not (b == 10)

-- a byte 32 to 126 but }: a byte inside a braced name
abbrev pub is_braced_byte : ℕ → Bool
is_braced_byte b = nat_le 32 b && (nat_le b 126 && not (b == 125))

-- any number of such bytes, and }: a braced name after its opening brace
abbrev pub is_braced_rest : List ℕ → Bool
is_braced_rest [] = false
is_braced_rest (b ∷ []) = b == 125
is_braced_rest (b ∷ c ∷ bs) = is_braced_byte b && is_braced_rest (c ∷ bs)

-- 0 1
abbrev pub constants : List (ℕ × TokenKind)
constants = (48, kind.Zero) ∷ (49, kind.One) ∷ []

-- the tokens of one byte that are not digits
abbrev pub symbols : List (ℕ × TokenKind)
symbols =
    (59, kind.Semicolon) ∷ (44, kind.Comma) ∷ (40, kind.Open) ∷ (41, kind.Close)
    ∷ (58, kind.Colon) ∷ (124, kind.Bar) ∷ (38, kind.Ampersand) ∷ (94, kind.Caret)
    ∷ (61, kind.Equal) ∷ (33, kind.Bang) ∷ (63, kind.Question) ∷ []

-- := != =>
abbrev pub long_symbols : List ((ℕ × ℕ) × TokenKind)
long_symbols = ((58, 61), kind.Becomes) ∷ ((33, 61), kind.Differ) ∷ ((61, 62), kind.Implies) ∷ []

abbrev pub constant : ℕ → Option TokenKind
constant b = lookup (nat_eq b) constants

abbrev pub symbol : ℕ → Option TokenKind
symbol b = lookup (nat_eq b) symbols

abbrev pub long_symbol : ℕ → ℕ → Option TokenKind
long_symbol b c = lookup (λ (p : ℕ × ℕ). nat_eq b p.0 && nat_eq c p.1) long_symbols

abbrev pub reserved_words : List (List ℕ × TokenKind)
reserved_words =
    (codes "decl", kind.Decl) ∷ (codes "begin", kind.Begin) ∷ (codes "end", kind.End)
    ∷ (codes "skip", kind.Skip) ∷ (codes "goto", kind.Goto) ∷ (codes "return", kind.Return)
    ∷ (codes "if", kind.If) ∷ (codes "then", kind.Then) ∷ (codes "else", kind.Else)
    ∷ (codes "fi", kind.Fi) ∷ (codes "while", kind.While) ∷ (codes "do", kind.Do)
    ∷ (codes "od", kind.Od) ∷ (codes "assert", kind.Assert) ∷ (codes "print", kind.Print)
    ∷ (codes "assume", kind.Assume) ∷ []

-- the kind of the reserved word with these bytes
abbrev pub reserved_word : List ℕ → Option TokenKind
reserved_word s = lookup (bytes_eq s) reserved_words

-- the kind of an identifier: that of a reserved word, or else a name
abbrev pub word_kind : List ℕ → TokenKind
word_kind s = unwrap_or (reserved_word s) kind.Name

-- whether the bytes are a reserved word
abbrev pub is_reserved : List ℕ → Bool
is_reserved s = is_some (reserved_word s)

-- the bytes are one lexeme of the kind
abbrev pub fits : LexemeKind → List ℕ → Bool
fits lexeme.White (b ∷ []) = is_white b
fits lexeme.Comment (b ∷ c ∷ bs) = b == 47 && (c == 47 && list_all is_comment_byte bs)
fits lexeme.Identifier (b ∷ bs) = is_letter b && list_all is_word_byte bs
fits lexeme.Braced (b ∷ bs) = b == 123 && is_braced_rest bs
fits lexeme.Constant (b ∷ []) = is_some (constant b)
fits lexeme.Symbol (b ∷ []) = is_some (symbol b)
fits lexeme.Symbol (b ∷ c ∷ []) = is_some (long_symbol b c)
fits _ _ = false

-- the bytes are a name: an identifier that is not reserved, or a braced name
abbrev pub IsSpelled : List ℕ → Type 0
IsSpelled s =
    ((fits lexeme.Identifier s ≡ true) × (is_reserved s ≡ false))
    ⊎ (fits lexeme.Braced s ≡ true)

-- the kind of the token of such a lexeme; white and comments have none
abbrev pub kind_of : LexemeKind → List ℕ → Option TokenKind
kind_of lexeme.Identifier s = Some (word_kind s)
kind_of lexeme.Braced s = Some kind.Name
kind_of lexeme.Constant (b ∷ []) = constant b
kind_of lexeme.Symbol (b ∷ []) = symbol b
kind_of lexeme.Symbol (b ∷ c ∷ []) = long_symbol b c
kind_of _ _ = None

-- a token: its kind, the place of its first byte, its bytes
pub record Token : Type 0 where
  pub kind : TokenKind
  pub at : ℕ
  pub text : List ℕ

-- the scan can give the token
pub record IsReal (t : Token) : Type 0 where
  pub lexeme : LexemeKind
  pub fits : fits lexeme t.text ≡ true
  pub spells : kind_of lexeme t.text ≡ Some t.kind

-- each of these tokens is real
abbrev pub AllReal : List Token → Type 0
AllReal [] = Unit {0}
AllReal (t ∷ ts) = IsReal t × AllReal ts

-- The cut of a text into lexemes: each is the longest lexeme that fits at its place, or one byte if
-- none fits: an open brace or a bad byte.

-- the first n bytes of s are a lexeme of the kind, and no longer prefix of s is a lexeme
pub record IsLongest (s : List ℕ) (kind : LexemeKind) (n : ℕ) : Type 0 where
  pub some : 0 < n
  pub within : n ≤ length s
  pub is_lexeme : fits kind (take n s) ≡ true
  pub no_longer : (other : LexemeKind) (m : ℕ) → n < m → m ≤ length s
      → fits other (take m s) ≢ true

-- s begins with no lexeme
abbrev pub NoneFits : List ℕ → Type 0
NoneFits s = (kind : LexemeKind) (m : ℕ) → 0 < m → m ≤ length s → fits kind (take m s) ≢ true

-- a lexeme of a text: one of a kind with its bytes, an open brace or a bad byte, each with its
-- place
pub data Lexeme : Type 0 where
  Fit : (kind : LexemeKind) (at : ℕ) (bytes : List ℕ) → Lexeme
  Brace : (at : ℕ) → Lexeme
  Bad : (at : ℕ) → Lexeme

-- these are the lexemes of the rest of a text from a place on
pub data IsCut : ℕ → List ℕ → List Lexeme → Type 0 where
  ends : {at : ℕ} → IsCut at [] []
  fit :
      {at n : ℕ} {text : List ℕ} {kind : LexemeKind} {more : List Lexeme}
      → IsLongest text kind n
      → IsCut (at + n) (drop n text) more
      → IsCut at text (Fit kind at (take n text) ∷ more)
  open_brace :
      {at b : ℕ} {text : List ℕ} {more : List Lexeme}
      → NoneFits (b ∷ text)
      → b ≡ 123
      → IsCut (at + 1) text more
      → IsCut at (b ∷ text) (Brace at ∷ more)
  bad_byte :
      {at b : ℕ} {text : List ℕ} {more : List Lexeme}
      → NoneFits (b ∷ text)
      → b ≢ 123
      → IsCut (at + 1) text more
      → IsCut at (b ∷ text) (Bad at ∷ more)

-- the place of the first bad byte
abbrev pub first_bad_byte : List Lexeme → Option ℕ
first_bad_byte [] = None
first_bad_byte (Fit kind at bytes ∷ ps) = first_bad_byte ps
first_bad_byte (Brace at ∷ ps) = first_bad_byte ps
first_bad_byte (Bad at ∷ ps) = Some at

-- the place of the first open brace
abbrev pub first_open_brace : List Lexeme → Option ℕ
first_open_brace [] = None
first_open_brace (Fit kind at bytes ∷ ps) = first_open_brace ps
first_open_brace (Brace at ∷ ps) = Some at
first_open_brace (Bad at ∷ ps) = first_open_brace ps

-- these tokens after that of a lexeme, unless the lexeme is white or a comment
abbrev pub with_token : Option TokenKind → ℕ → List ℕ → List Token → List Token
with_token None at bytes ts = ts
with_token (Some kind) at bytes ts = record { kind = kind; at = at; text = bytes } ∷ ts

-- the tokens among the lexemes
abbrev pub tokens_of : List Lexeme → List Token
tokens_of [] = []
tokens_of (Fit kind at bytes ∷ ps) = with_token (kind_of kind bytes) at bytes (tokens_of ps)
tokens_of (Brace at ∷ ps) = tokens_of ps
tokens_of (Bad at ∷ ps) = tokens_of ps

-- the text has no bad byte and no open brace, and these tokens
pub record HasTokens (text : List ℕ) (ts : List Token) : Type 0 where
  pub lexemes : List Lexeme
  pub cut : IsCut 0 text lexemes
  pub good : first_bad_byte lexemes ≡ None
  pub closed : first_open_brace lexemes ≡ None
  pub tokens : tokens_of lexemes ≡ ts

-- the first bad byte of the text is at this place
pub record HasBadByte (text : List ℕ) (at : ℕ) : Type 0 where
  pub lexemes : List Lexeme
  pub cut : IsCut 0 text lexemes
  pub bad : first_bad_byte lexemes ≡ Some at

-- the text has no bad byte, and its first open brace is at this place
pub record HasOpenName (text : List ℕ) (at : ℕ) : Type 0 where
  pub lexemes : List Lexeme
  pub cut : IsCut 0 text lexemes
  pub good : first_bad_byte lexemes ≡ None
  pub unclosed : first_open_brace lexemes ≡ Some at
