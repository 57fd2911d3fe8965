-- How texts are refused that are not those of a program, and laws of texts.
use Rattle.std.specs.Prelude.{ℕ, Option, None, Some, ◌≡◌, List, [], ◌∷◌, ◌++◌, ◌⊎◌, length, ◌<◌, ◌≤◌, ◌≢◌, All}
use Rattle.bp_syntax.specs.Ast.{Program}
use Rattle.bp_syntax.specs.Tokens.{Token, AllReal, HasTokens, HasBadByte, HasOpenName, IsSpelled, Lexeme, IsCut}
use Rattle.bp_syntax.specs.Grammar.{Derives}
use Rattle.bp_syntax.specs.declared.limits.TheConstants.{TEXT_LIMIT}
use Rattle.bp_syntax.specs.Texts.{IsShallow, IsSparse, IsTextOf}
use Rattle.bp_syntax.specs.declared.errors.ReadError.{ReadError}
use Rattle.bp_syntax.specs.declared.errors.ReadError.TheVariants as error
use Rattle.bp_syntax.specs.declared.errors.ReadError.TheVariants.{Memory}

-- The numbers of the errors of a text, and the places that they name.

-- the number by which users know the error
abbrev pub read_error_number : ReadError → ℕ
read_error_number error.TooLong = 1
read_error_number (error.BadByte at) = 2
read_error_number (error.OpenName at) = 3
read_error_number (error.TooNested at) = 4
read_error_number (error.TooManyTokens at) = 5
read_error_number (error.Syntax at) = 6
read_error_number error.Memory = 7

-- the byte of the text that the error names, if any
abbrev pub read_error_place : ReadError → Option ℕ
read_error_place error.TooLong = None
read_error_place (error.BadByte at) = Some at
read_error_place (error.OpenName at) = Some at
read_error_place (error.TooNested at) = Some at
read_error_place (error.TooManyTokens at) = Some at
read_error_place (error.Syntax at) = Some at
read_error_place error.Memory = None

-- Tokens that begin a program, and the first token that cannot continue one.

-- a program of the grammar begins with these tokens
pub record Opens (ts : List Token) : Type 0 where
  pub more : List Token
  pub real : AllReal more
  pub tree : Program
  pub derives : Derives (ts ++ more) tree

-- the first token up to and including which the tokens no longer have P is at this place
pub record BreaksAt (P : List Token → Type 0) (ts : List Token) (at : ℕ) : Type 0 where
  pub front : List Token
  pub token : Token
  pub rest : List Token
  pub parts : ts ≡ front ++ token ∷ rest
  pub before : P front
  pub after : P (front ++ token ∷ []) → ⊥
  pub place : token.at ≡ at

-- the first token after which no program can continue is at this place; or the text ends too early,
-- and this is its length
abbrev pub HasSyntaxError : List ℕ → List Token → ℕ → Type 0
HasSyntaxError text ts at =
    BreaksAt Opens ts at ⊎ (Opens ts × ((p : Program) → Derives ts p → ⊥) × (at ≡ length text))

-- How texts are refused that are not those of a program.

-- how a text is refused: for its first error; for memory only if it is not too long
abbrev pub IsRefusal : List ℕ → ReadError → Type 0
IsRefusal text error.TooLong = TEXT_LIMIT < length text
IsRefusal text (error.BadByte at) = (length text ≤ TEXT_LIMIT) × HasBadByte text at
IsRefusal text (error.OpenName at) = (length text ≤ TEXT_LIMIT) × HasOpenName text at
IsRefusal text (error.TooNested at) =
    (length text ≤ TEXT_LIMIT)
    × (tokens : List Token)
    × HasTokens text tokens
    × BreaksAt IsShallow tokens at
IsRefusal text (error.TooManyTokens at) =
    (length text ≤ TEXT_LIMIT)
    × (tokens : List Token)
    × HasTokens text tokens
    × IsShallow tokens
    × BreaksAt IsSparse tokens at
IsRefusal text (error.Syntax at) =
    (length text ≤ TEXT_LIMIT)
    × (tokens : List Token)
    × HasTokens text tokens
    × IsShallow tokens
    × IsSparse tokens
    × HasSyntaxError text tokens at
IsRefusal text error.Memory = length text ≤ TEXT_LIMIT

-- Laws of texts, of the scan and of the grammar.

-- each text has a cut, and no other
abbrev pub OneCut : Type 0
OneCut =
    (text : List ℕ)
    → (lexemes : List Lexeme)
    × IsCut 0 text lexemes
    × ((others : List Lexeme) → IsCut 0 text others → others ≡ lexemes)

-- a list of tokens has at most one tree
abbrev pub OneTree : Type 0
OneTree = (tokens : List Token) (p q : Program) → Derives tokens p → Derives tokens q → p ≡ q

-- a text has at most one refusal, memory aside
abbrev pub OneRefusal : Type 0
OneRefusal =
    (text : List ℕ) (e f : ReadError)
    → e ≢ Memory
    → f ≢ Memory
    → IsRefusal text e
    → IsRefusal text f
    → e ≡ f

-- the text of a program has no refusal, memory aside
abbrev pub NoRefusalOfPrograms : Type 0
NoRefusalOfPrograms =
    (text : List ℕ) (p : Program) (e : ReadError)
    → IsTextOf text p
    → IsRefusal text e
    → e ≡ Memory

-- a text that is a name holds no line feed
abbrev pub NamesOnOneLine : Type 0
NamesOnOneLine = (s : List ℕ) → IsSpelled s → All (λ b. b ≢ 10) s
