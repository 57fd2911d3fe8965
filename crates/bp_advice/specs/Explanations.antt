-- Explanations: their parts, and how an error of a program is explained.
use Rattle.std.specs.Prelude.{if◌then◌else◌, ◌≡◌, ◌==◌, ◌||◌, ◌&&◌, nat_le, ℕ, Bool, true, List, [], ◌∷◌, ◌++◌, Option, None, Some, All, map, decimal, ◌≢◌, ◌⊎◌, length, ◌≤◌, take, drop}
use Rattle.bp_text.specs.Pieces.{displayed}
use Rattle.bp_text.specs.Lines.{IsOneLine, position_at}
use Rattle.bp_syntax.specs.Ast.{Program}
use Rattle.bp_syntax.specs.Texts.{IsTextOf}
use Rattle.bp_syntax.specs.Tokens.{IsReal, HasTokens}
use Rattle.bp_syntax.specs.declared.tokens.TokenKind.{TokenKind}
use Rattle.bp_syntax.specs.declared.tokens.TokenKind.TheVariants.{Name}
use Rattle.bp_syntax.specs.declared.errors.CheckError.TheVariants as check
use Rattle.bp_syntax.specs.Refusals.{IsRefusal}
use Rattle.bp_syntax.specs.declared.errors.ReadError.TheVariants.{Syntax}
use Rattle.bp_syntax.specs.declared.errors.ReadError.TheVariants as read
use Rattle.bp_code.specs.WellFormedTexts.{program_error_place}
use Rattle.bp_code.specs.declared.texts.ProgramError.{ProgramError}
use Rattle.bp_code.specs.declared.texts.ProgramError.TheVariants.{Read, Check}
use Rattle.bp_advice.specs.declared.explanations.Explanation.{Explanation}
use Rattle.bp_advice.specs.declared.explanations.Place.{Place}
use Rattle.bp_advice.specs.declared.explanations.Place.TheVariants.{Whole, Line, At}

-- The parts of an explanation, and the lines that show it.

-- the explanation is of this place of a file, by a sentence on one line
pub record IsAt (file : List ℕ) (place : Place) (e : Explanation) : Type 0 where
  pub file_is : e.file.now ≡ file
  pub place_is : e.place ≡ place
  pub one_line : IsOneLine e.sentence.items

-- the place of a byte of a text, or the whole text
abbrev pub place_of : List ℕ → Option ℕ → Place
place_of text None = Whole
place_of text (Some at) = At (position_at text at)

-- the explanation is of this place of a text, or of the whole text
abbrev pub ExplainsPlace : List ℕ → List ℕ → Option ℕ → Explanation → Type 0
ExplainsPlace file text at e = IsAt file (place_of text at) e

-- the explanation is of this line
abbrev pub ExplainsLine : List ℕ → ℕ → Explanation → Type 0
ExplainsLine file n e = IsAt file (Line n) e

-- no explanation fits an error
abbrev pub IsUnexplained : (Explanation → Type 0) → Type 0
IsUnexplained Explains = (e : Explanation) → Explains e → ⊥

-- this explains an error; it is None if nothing does
abbrev pub IsExplanationOf : (Explanation → Type 0) → Option Explanation → Type 0
IsExplanationOf Explains (Some e) = Explains e
IsExplanationOf Explains None = IsUnexplained Explains

-- the byte is a line feed, or a character that a terminal shows in one column
abbrev pub is_plain : ℕ → Bool
is_plain b = b == 10 || (nat_le 32 b && nat_le b 126)

-- the byte that is shown for a byte
abbrev pub shown : ℕ → ℕ
shown b = if is_plain b then b else if b == 9 || b == 13 then 32 else 63

-- a terminal shows the text as it is
abbrev pub IsPlain : List ℕ → Type 0
IsPlain text = All (λ b. is_plain b ≡ true) text

-- a number after a colon
abbrev pub after_colon : ℕ → List ℕ
after_colon n = 58 ∷ decimal n

-- the numbers of a place
abbrev pub numbers_of : Place → List ℕ
numbers_of Whole = []
numbers_of (Line n) = after_colon n
numbers_of (At p) = after_colon p.line ++ after_colon p.column

-- the text between a place and a sentence on it: a colon and a space
abbrev pub separator : List ℕ
separator = 58 ∷ 32 ∷ []

-- the head that names a file and a place in it
abbrev pub head_of : List ℕ → Place → List ℕ
head_of file place = displayed file ++ numbers_of place ++ separator

-- the sentence of an explanation, as shown
abbrev pub sentence_of : Explanation → List ℕ
sentence_of e = map shown e.sentence.items

-- the lines of an explanation, as shown: its head and its sentence, and then its excerpt
abbrev pub lines_of : Explanation → List ℕ
lines_of e =
    map shown (head_of e.file.now e.place ++ e.sentence.items ++ 10 ∷ e.excerpt.items)

-- The tokens with which a text may continue.

-- the text is a program
pub record IsProgram (text : List ℕ) : Type 0 where
  pub program : Program
  pub derived : IsTextOf text program

-- a program begins with the text: it is one, or it only ends too early
abbrev pub BeginsProgram : List ℕ → Type 0
BeginsProgram text = IsProgram text ⊎ IsRefusal text (Syntax (length text))

-- a program begins with the front and, on the next line, the token
abbrev pub MayFollow : List ℕ → List ℕ → Type 0
MayFollow front token = BeginsProgram (front ++ 10 ∷ token)

-- a program begins with the front and, on the next line, some token of this kind
pub record MayFollowAs (front : List ℕ) (kind : TokenKind) : Type 0 where
  pub token : List ℕ
  pub real : IsReal (record { kind = kind; at = 0; text = token })
  pub follows : MayFollow front token

-- A kind is offered after the front if a token of it may follow, and only then. For names one is
-- tried: if names are not offered, that one may not follow.
pub record IsJudged (front : List ℕ) (kind : TokenKind) (offered : Type 0) : Type 0 where
  pub only : offered → MayFollowAs front kind
  pub all : kind ≢ Name → MayFollowAs front kind → offered
  pub name : List ℕ
  pub real : IsReal (record { kind = kind; at = 0; text = name })
  pub tried : MayFollow front name → offered

-- How an error of a program is explained.

-- a semicolon is missing at this place, before the token that cannot come at `at`: a program may
-- continue with one there, and only white and comments are from there to the token
pub record MissesSemicolon (text : List ℕ) (at place : ℕ) : Type 0 where
  pub before : place ≤ at
  pub gap : HasTokens (drop place (take at text)) []
  pub follows : MayFollow (take place text) (59 ∷ [])

-- the explanation is of this place of a token that cannot come there, or of a place with a missing
-- semicolon
abbrev pub ExplainsSyntax : List ℕ → List ℕ → ℕ → Explanation → Type 0
ExplainsSyntax file text at e =
    (place : ℕ) × ((place ≡ at) ⊎ MissesSemicolon text at place)
    × ExplainsPlace file text (Some place) e

-- the explanation of an error of a program's text: none for refused memory, or for a text that is
-- too long and so was not read whole
abbrev pub ExplainsProgram : List ℕ → List ℕ → ProgramError → Explanation → Type 0
ExplainsProgram file text (Read read.Memory) e = ⊥
ExplainsProgram file text (Read read.TooLong) e = ⊥
ExplainsProgram file text (Read (read.Syntax at)) e = ExplainsSyntax file text at e
ExplainsProgram file text (Check check.Memory at) e = ⊥
ExplainsProgram file text error e = ExplainsPlace file text (program_error_place error) e
