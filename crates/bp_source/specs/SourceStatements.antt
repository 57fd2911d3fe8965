-- The source statement of each instruction.
use Rattle.std.specs.Prelude.{ℕ, List, ◌++◌, Option, None, Some, codes, decimal, if◌then◌else◌, ◌≡◌, ◌||◌, Bool, true, false, [], ◌∷◌, bytes_eq, map, drop, option_map, slice_get}
use Rattle.std.specs.List.{list_any}
use Rattle.bp_text.specs.declared.lines.Position.{Position}
use Rattle.bp_text.specs.Lines.{position_at, on_one_line, IsOneLine}
use Rattle.bp_syntax.specs.Ast.{Procedure, Program}
use Rattle.bp_syntax.specs.declared.tokens.LexemeKind.{LexemeKind}
use Rattle.bp_syntax.specs.declared.tokens.LexemeKind.TheVariants.{White, Comment}
use Rattle.bp_flat.specs.StandsFor.{Place, places_of, start_of_block}
use Rattle.bp_syntax.specs.Lexer.{TakesLexeme}
use Rattle.bp_source.specs.declared.source_statements.SourceStatement.{SourceStatement}

-- How a view prints the start of a statement.

-- LINE:COLUMN
abbrev pub position_text : Position → List ℕ
position_text p = decimal p.line ++ codes ":" ++ decimal p.column

-- the place of the statement that begins at this offset; a procedure's end has none
abbrev pub place_text : List ℕ → Option ℕ → List ℕ
place_text text None = codes "-"
place_text text (Some at) = position_text (position_at text at)

-- The text of a statement on one line, as a view shows it.

-- a lexeme: its kind, None for a byte that begins no lexeme, and its bytes
pub record Lexeme : Type 0 where
  pub kind : Option LexemeKind
  pub bytes : List ℕ

-- `;`, `then` and `do` end the text shown of a statement
abbrev pub is_ending : List ℕ → Bool
is_ending bytes =
    bytes_eq bytes (codes ";") || bytes_eq bytes (codes "then") || bytes_eq bytes (codes "do")

-- the text begins with a lexeme that ends a statement, or nothing is left of it
pub data IsAtEnd : (text : List ℕ) → Type 0 where
  none_left : IsAtEnd []
  ending :
      {text rest bytes : List ℕ} {kind : Option LexemeKind}
      → TakesLexeme text kind bytes rest
      → is_ending bytes ≡ true
      → IsAtEnd text

-- the text begins with this lexeme of a statement, followed by the rest
pub record Takes (text : List ℕ) (kind : Option LexemeKind) (bytes rest : List ℕ) : Type 0 where
  pub takes : TakesLexeme text kind bytes rest
  pub goes_on : is_ending bytes ≡ false

-- the text begins with a statement that has these lexemes: all before the first that ends it
pub data HasLexemes : (text : List ℕ) → List Lexeme → Type 0 where
  ends : {text : List ℕ} → IsAtEnd text → HasLexemes text []
  more :
      {text rest : List ℕ} {l : Lexeme} {ls : List Lexeme}
      → Takes text l.kind l.bytes rest
      → HasLexemes rest ls
      → HasLexemes text (l ∷ ls)

-- white and comments
abbrev pub is_gap : Option LexemeKind → Bool
is_gap (Some White) = true
is_gap (Some Comment) = true
is_gap kind = false

-- bytes on one line, after a space if a gap comes before them
abbrev pub spaced : (gap : Bool) → List ℕ → List ℕ
spaced gap bytes = (if gap then codes " " else []) ++ map on_one_line bytes

-- a lexeme after a gap or after none; a gap has no text of its own
abbrev pub lexeme_text : (gap : Bool) → Option LexemeKind → List ℕ → List ℕ
lexeme_text gap kind bytes = if is_gap kind then [] else spaced gap bytes

-- these lexemes, one after the other
abbrev pub lexemes_text : (gap : Bool) → List Lexeme → List ℕ
lexemes_text gap [] = []
lexemes_text gap (l ∷ ls) =
    lexeme_text gap l.kind l.bytes ++ lexemes_text (is_gap l.kind) ls

abbrev pub is_choice : List ℕ → Bool
is_choice bytes = bytes_eq bytes (codes "?")

-- the statement that begins the text has this shown text, and reads a choice bit or not
pub record IsStatement (text shown : List ℕ) (reads : Bool) : Type 0 where
  pub lexemes : List Lexeme
  pub lexemes_are : HasLexemes text lexemes
  pub shown_is : shown ≡ lexemes_text false lexemes
  pub reads_is : reads ≡ list_any (λ l. is_choice l.bytes) lexemes

-- the text shown at the end of a procedure with this name
pub record IsEnd (name shown : List ℕ) (reads : Bool) : Type 0 where
  pub shown_is : shown ≡ codes "end of " ++ map on_one_line name
  pub reads_none : reads ≡ false

-- this is the text of the statement of this procedure that begins at this offset, or of the
-- procedure's end, and whether it reads a choice bit
abbrev pub IsStatementAt : List ℕ → Procedure → Option ℕ → List ℕ → Bool → Type 0
IsStatementAt text p None shown reads = IsEnd p.name.text shown reads
IsStatementAt text p (Some at) shown reads = IsStatement (drop at text) shown reads

-- The source statement has the start of the next statement of a place in the program, and its text
-- on one line. It has the number of the procedure.
pub record IsSourceStatement
    (text : List ℕ) (ps : List Procedure) (x : Place) (statement : SourceStatement)
    : Type 0 where
  pub place : statement.place.items ≡ place_text text (start_of_block x.left)
  pub excerpt :
      let shown = statement.excerpt.text.items in
      IsStatementAt text x.procedure (start_of_block x.left) shown statement.excerpt.reads_choice
  pub one_line : IsOneLine statement.excerpt.text.items
  pub start : statement.start ≡ start_of_block x.left
  pub position : statement.position ≡ option_map (position_at text) (start_of_block x.left)
  pub procedure : slice_get ps statement.procedure ≡ Some x.procedure

-- one source statement for each of these places
abbrev pub AreSourceStatementsAt
    : List ℕ → List Procedure → List Place → List SourceStatement → Type 0
AreSourceStatementsAt text ps [] [] = Unit {0}
AreSourceStatementsAt text ps (x ∷ xs) (statement ∷ statements) =
    IsSourceStatement text ps x statement × AreSourceStatementsAt text ps xs statements
AreSourceStatementsAt text ps xs statements = ⊥

-- one source statement for each instruction of the program
abbrev pub AreSourceStatements : List ℕ → Program → List SourceStatement → Type 0
AreSourceStatements text t statements =
    AreSourceStatementsAt text t.procedures (places_of t.procedures) statements

-- these are the texts of the statements of these places, or of procedures' ends
abbrev pub AreStatements : List ℕ → List Place → List (List ℕ) → Type 0
AreStatements text [] [] = Unit {0}
AreStatements text (x ∷ xs) (shown ∷ rest) =
    ((reads : Bool) × IsStatementAt text x.procedure (start_of_block x.left) shown reads)
    × AreStatements text xs rest
AreStatements text xs rest = ⊥
