-- Listings with the source, and the objects of places, codes and programs in JSON.
use Rattle.std.specs.Prelude.{ℕ, List, Option, option_map, slice_get, ◌≡◌, suc, [], ◌∷◌, ◌++◌, codes, decimal, flat_map, length, if◌then◌else◌, ◌==◌, ◌<◌, Bool, false}
use Rattle.std.specs.List.{concat, after_first}
use Rattle.bp_text.specs.declared.lines.Position.{Position}
use Rattle.bp_text.specs.Pieces.{string_text, key_text, list_text, number_or_null, string_or_null, at_left}
use Rattle.bp_text.specs.Lines.{first_line}
use Rattle.bp_syntax.specs.Ast.{Procedure, Program, Name}
use Rattle.bp_flat.specs.Flat.{Flat, Heading, Instruction, callee_of, instruction_kind, next_of, other_of}
use Rattle.bp_flat.specs.declared.instrs.Kind.{Kind}
use Rattle.bp_flat.specs.declared.instrs.Kind.TheVariants.{Skip, Goto, Return, Assign, If, While, Assert, Assume, Print, Call}
use Rattle.bp_source.specs.declared.source_statements.SourceStatement.{SourceStatement}
use Rattle.bp_source.specs.SourceStatements.{AreSourceStatements}
use Rattle.bp_source.specs.declared.listings.TheConstants.{INSTRUCTION_WIDTH, PLACE_WIDTH}

-- The name of a procedure.

-- the name of the procedure with this number
abbrev pub name_at : List Procedure → ℕ → Option (List ℕ)
name_at ps n = option_map (λ p. p.name.text) (slice_get ps n)

-- The line and the column of a place, as objects of JSON have them.

-- the line of a place, if there is one
abbrev pub line_of : Option Position → Option ℕ
line_of position = option_map (λ p. p.line) position

abbrev pub column_of : Option Position → Option ℕ
column_of position = option_map (λ p. p.column) position

-- The code of a program in JSON: an object of the code with its procedures, and one for each of its
-- instructions.

-- the word for the operation of an instruction, as in the listing
abbrev pub operation_name : Kind → List ℕ
operation_name Skip = codes "skip"
operation_name Goto = codes "goto"
operation_name Return = codes "return"
operation_name Assign = codes "assign"
operation_name If = codes "if"
operation_name While = codes "while"
operation_name Assert = codes "assert"
operation_name Assume = codes "assume"
operation_name Print = codes "print"
operation_name Call = codes "call"

-- a procedure of a list: its name, its numbers of formals and of declared locals, and the number
-- of its first instruction
abbrev pub heading_item : Heading → List ℕ
heading_item h =
    concat (
    codes ",{\"name\":" ∷ string_text h.name
    ∷ key_text (codes "formals") ∷ decimal h.formals
    ∷ key_text (codes "locals") ∷ decimal h.locals
    ∷ key_text (codes "entry") ∷ decimal h.entry
    ∷ codes "}" ∷ [])

-- a code: its procedures in the order of the text, and its number of instructions
abbrev pub code_object : Flat → List ℕ
code_object c =
    concat (
    codes "{\"kind\":\"code\",\"version\":1"
    ∷ key_text (codes "procedures") ∷ list_text (flat_map heading_item c.headings)
    ∷ key_text (codes "instructions") ∷ decimal (length c.instructions)
    ∷ codes "}\n" ∷ [])

-- an instruction: its number, its procedure, its operation; the numbers of the next instruction, of
-- the other one for a test of 0, and of a callee's first; and the place and the text of its
-- statement, as its source statement shows them
abbrev pub instruction_object : List Procedure → ℕ → Instruction → SourceStatement → List ℕ
instruction_object ps n i statement =
    concat (
    codes "{\"kind\":\"instruction\""
    ∷ key_text (codes "number") ∷ decimal n
    ∷ key_text (codes "procedure") ∷ string_or_null (name_at ps statement.procedure)
    ∷ key_text (codes "operation") ∷ string_text (operation_name (instruction_kind i))
    ∷ key_text (codes "next") ∷ number_or_null (next_of i)
    ∷ key_text (codes "other") ∷ number_or_null (other_of i)
    ∷ key_text (codes "callee") ∷ number_or_null (callee_of i)
    ∷ key_text (codes "line") ∷ number_or_null (line_of statement.position)
    ∷ key_text (codes "column") ∷ number_or_null (column_of statement.position)
    ∷ key_text (codes "statement") ∷ string_text statement.excerpt.text.items
    ∷ codes "}\n" ∷ [])

-- the objects of instructions with their source statements, the first of which has the number n
abbrev pub instruction_objects
    : List Procedure → ℕ → List Instruction → List SourceStatement → List ℕ
instruction_objects ps n [] statements = []
instruction_objects ps n (i ∷ is) [] = []
instruction_objects ps n (i ∷ is) (statement ∷ statements) =
    instruction_object ps n i statement ++ instruction_objects ps (suc n) is statements

-- the code, and each of its instructions with the source statement of its place in the program
pub record IsCodeInJson (text : List ℕ) (t : Program) (c : Flat) (written : List ℕ) : Type 0 where
  pub statements : List SourceStatement
  pub are : AreSourceStatements text t statements
  pub each_has_one : length statements ≡ length c.instructions
  pub is : written ≡ code_object c ++ instruction_objects t.procedures 0 c.instructions statements

-- A listing with the source of each instruction.

-- a procedure's line begins with `proc`, and that of an instruction with a number
abbrev pub is_heading : List ℕ → Bool
is_heading [] = false
is_heading (b ∷ bs) = b == 112

abbrev pub plain_line : List ℕ → List ℕ
plain_line instruction = instruction ++ codes "\n"

-- an instruction, and in columns after it the place and the text of its source statement
abbrev pub sourced_line : List ℕ → SourceStatement → List ℕ
sourced_line instruction statement =
    at_left INSTRUCTION_WIDTH instruction
    ++ codes " ; " ++ at_left PLACE_WIDTH statement.place.items
    ++ codes " " ++ statement.excerpt.text.items
    ++ codes "\n"

-- a line of a listing, if the first of these source statements is that of the next instruction
abbrev pub line_with : List ℕ → List SourceStatement → List ℕ
line_with instruction [] = plain_line instruction
line_with instruction (statement ∷ statements) =
    if is_heading instruction then plain_line instruction else sourced_line instruction statement

-- the source statements of the instructions after that line
abbrev pub statements_after : List ℕ → List SourceStatement → List SourceStatement
statements_after instruction [] = []
statements_after instruction (statement ∷ statements) =
    if is_heading instruction then statement ∷ statements else statements

-- each line of the listing is written, those of instructions with their source statements in turn
pub data IsSourced : List ℕ → List SourceStatement → List ℕ → Type 0 where
  nothing : {statements : List SourceStatement} → IsSourced [] statements []
  line :
      {listing written : List ℕ} {statements : List SourceStatement}
      → 0 < length listing
      → IsSourced (after_first (λ b. b == 10) listing)
      (statements_after (first_line listing) statements) written
      → IsSourced listing statements (line_with (first_line listing) statements ++ written)

-- the listing with the source statements of the program's instructions
pub record IsSourcedListing (text : List ℕ) (t : Program) (listing written : List ℕ) : Type 0 where
  pub statements : List SourceStatement
  pub are : AreSourceStatements text t statements
  pub is : IsSourced listing statements written

-- The object of a program in JSON.

-- a string of a list
abbrev pub string_item : List ℕ → List ℕ
string_item text = concat (codes "," ∷ string_text text ∷ [])

abbrev pub name_item : Name → List ℕ
name_item name = string_item name.text

abbrev pub name_list : List Name → List ℕ
name_list names = list_text (flat_map name_item names)

-- a procedure of a list: its name, its formals, and the locals that it declares
abbrev pub procedure_item : Procedure → List ℕ
procedure_item p =
    concat (
    concat (codes ",{\"name\":" ∷ string_text p.name.text ∷ key_text (codes "formals") ∷ [])
    ∷ name_list p.formals
    ∷ key_text (codes "locals")
    ∷ name_list p.locals
    ∷ codes "}" ∷ [])

-- a program: its procedures and its globals, in the order of their declarations
abbrev pub program_object : Program → List ℕ
program_object t =
    concat (
    concat (
    codes "{\"kind\":\"program\",\"version\":1"
    ∷ key_text (codes "procedures") ∷ list_text (flat_map procedure_item t.procedures)
    ∷ key_text (codes "globals")
    ∷ [])
    ∷ name_list t.globals
    ∷ codes "}\n" ∷ [])
