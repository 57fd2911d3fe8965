-- Lines that name the statements of a program.
use Rattle.std.specs.Prelude.{◌≡◌, ℕ, List, [], ◌∷◌, Option, None, Some, codes, map, option_map}
use Rattle.std.specs.List.{concat}
use Rattle.bp_text.specs.Pieces.{displayed, string_text, key_text, number_or_null}
use Rattle.bp_text.specs.declared.lines.Position.{Position}
use Rattle.bp_text.specs.Lines.{position_at}
use Rattle.bp_syntax.specs.Ast.{Program}
use Rattle.bp_flat.specs.StandsFor.{Place, places_of, start_of_block}
use Rattle.bp_source.specs.declared.source_statements.SourceStatement.{SourceStatement}
use Rattle.bp_source.specs.SourceStatements.{AreSourceStatements}
use Rattle.bp_source.specs.Listings.{column_of, line_of}
use Rattle.bp_source.specs.declared.statements.Rendering.{Rendering}
use Rattle.bp_source.specs.declared.statements.Rendering.TheVariants.{Line, Unreached, Text}

-- the file, the place and the text of a statement with a start; nothing without one
abbrev pub statement_line : Option ℕ → (file place shown : List ℕ) → List ℕ
statement_line None file place shown = []
statement_line (Some at) file place shown =
    concat (displayed file ∷ codes ":" ∷ place ∷ codes " " ∷ shown ∷ codes "\n" ∷ [])

abbrev pub line_of_statement : List ℕ → SourceStatement → List ℕ
line_of_statement file statement =
    statement_line statement.start file statement.place.items statement.excerpt.text.items

-- the position of the next statement of a place; a procedure's end has none
abbrev pub position_of : (text : List ℕ) → Place → Option Position
position_of text x = option_map (position_at text) (start_of_block x.left)

-- one position for each instruction of the program
abbrev pub positions_of : (text : List ℕ) → Program → List (Option Position)
positions_of text t = map (position_of text) (places_of t.procedures)

-- one line for each instruction of the program
pub record AreStatementLines (file text : List ℕ) (t : Program) (lines : List (List ℕ))
    : Type 0 where
  pub statements : List SourceStatement
  pub are : AreSourceStatements text t statements
  pub lines_are : lines ≡ map (line_of_statement file) statements

-- Objects in JSON that name the statements of a program that no run reached.

-- the object of a statement with a start that no run reached; nothing without one
abbrev pub unreached_object
    : Option ℕ → (file : List ℕ) → Option Position → (shown : List ℕ) → List ℕ
unreached_object None file position shown = []
unreached_object (Some at) file position shown =
    concat (
    codes "{\"kind\":\"unreached\""
    ∷ key_text (codes "file") ∷ string_text file
    ∷ key_text (codes "line") ∷ number_or_null (line_of position)
    ∷ key_text (codes "column") ∷ number_or_null (column_of position)
    ∷ key_text (codes "statement") ∷ string_text shown
    ∷ codes "}\n" ∷ [])

abbrev pub object_of_statement : List ℕ → SourceStatement → List ℕ
object_of_statement file statement =
    unreached_object statement.start file statement.position statement.excerpt.text.items

-- one object for each instruction of the program
pub record AreUnreachedObjects (file text : List ℕ) (t : Program) (objects : List (List ℕ))
    : Type 0 where
  pub statements : List SourceStatement
  pub are : AreSourceStatements text t statements
  pub objects_are : objects ≡ map (object_of_statement file) statements

-- A device: the rendering of each statement of a program: its line, its object, or its text.

-- the rendering of a statement of the source
abbrev pub rendering_of : Rendering → SourceStatement → List ℕ
rendering_of (Line file) statement = line_of_statement file.now statement
rendering_of (Unreached file) statement = object_of_statement file.now statement
rendering_of Text statement = statement.excerpt.text.items

-- the rendering for each instruction of the program
pub record AreRenderings (rendering : Rendering) (text : List ℕ) (t : Program)
    (texts : List (List ℕ)) : Type 0 where
  pub statements : List SourceStatement
  pub are : AreSourceStatements text t statements
  pub texts_are : texts ≡ map (rendering_of rendering) statements
