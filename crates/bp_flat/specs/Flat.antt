-- Flat code as a value: headings of procedures, and instructions that name variables by slot and
-- successors by number.
use Rattle.std.specs.Prelude.{ℕ, Bool, List, Option, bytes_eq, None, Some}
use Rattle.std.specs.List.{find}
use Rattle.bp_syntax.specs.Ast.{Program}
use Rattle.bp_syntax.specs.declared.exprs.Op.{Op}
use Rattle.bp_flat.specs.declared.slots.Slot.{Slot}
use Rattle.bp_flat.specs.declared.instrs.Kind.{Kind}
use Rattle.bp_flat.specs.declared.instrs.Kind.TheVariants as kind

-- an expression over slots
pub data Formula : Type 0 where
  Bit : (value : Bool) → Formula
  At : (slot : Slot) → Formula
  Inverse : (f : Formula) → Formula
  Joined : (op : Op) (left right : Formula) → Formula

-- An instruction with its successors: the next one; the other one, for a test of 0; the first of a
-- callee. A test is a formula, or none if the choice bit decides.
pub data Instruction : Type 0 where
  Skip : (next : ℕ) → Instruction
  Goto : (next : ℕ) → Instruction
  Return : Instruction
  Assign : (targets : List Slot) (values : List Formula) (next : ℕ) → Instruction
  If : (test : Option Formula) (next other : ℕ) → Instruction
  While : (test : Option Formula) (next other : ℕ) → Instruction
  Assert : (test : Option Formula) (next : ℕ) → Instruction
  Assume : (test : Option Formula) (next : ℕ) → Instruction
  Print : (values : List Formula) (next : ℕ) → Instruction
  Call : (callee : ℕ) (arguments : List Formula) (next : ℕ) → Instruction

-- a procedure: its name, its numbers of formals and declared locals, and its first instruction
pub record Heading : Type 0 where
  pub name : List ℕ
  pub formals : ℕ
  pub locals : ℕ
  pub entry : ℕ

abbrev pub heading : List ℕ → ℕ → ℕ → ℕ → Heading
heading name formals locals entry =
    record { name = name; formals = formals; locals = locals; entry = entry }

-- a whole code, with its number of globals and the program that it was compiled from
pub record Flat : Type 0 where
  pub headings : List Heading
  pub globals : ℕ
  pub instructions : List Instruction
  pub tree : Program

abbrev pub flat : List Heading → ℕ → List Instruction → Program → Flat
flat headings globals instructions tree =
    record { headings = headings; globals = globals; instructions = instructions; tree = tree }

-- Headings by their names.

-- the first heading with a name
abbrev pub heading_named : List Heading → List ℕ → Option Heading
heading_named hs x = find (λ h. bytes_eq h.name x) hs

-- The kind of an instruction, and its successors.

abbrev pub instruction_kind : Instruction → Kind
instruction_kind (Skip m) = kind.Skip
instruction_kind (Goto m) = kind.Goto
instruction_kind Return = kind.Return
instruction_kind (Assign slots fs m) = kind.Assign
instruction_kind (If test m e) = kind.If
instruction_kind (While test m e) = kind.While
instruction_kind (Assert test m) = kind.Assert
instruction_kind (Assume test m) = kind.Assume
instruction_kind (Print fs m) = kind.Print
instruction_kind (Call c fs m) = kind.Call

abbrev pub next_of : Instruction → Option ℕ
next_of (Skip m) = Some m
next_of (Goto m) = Some m
next_of Return = None
next_of (Assign slots fs m) = Some m
next_of (If test m e) = Some m
next_of (While test m e) = Some m
next_of (Assert test m) = Some m
next_of (Assume test m) = Some m
next_of (Print fs m) = Some m
next_of (Call c fs m) = Some m

-- the successor for a test of 0
abbrev pub other_of : Instruction → Option ℕ
other_of (If test m e) = Some e
other_of (While test m e) = Some e
other_of i = None

-- the first instruction of a callee
abbrev pub callee_of : Instruction → Option ℕ
callee_of (Call c fs m) = Some c
callee_of i = None
