-- Programs as trees, without memory: the values that contracts give to the types of src/.
use Rattle.std.specs.Prelude.{ℕ, Bool, List, Option, ◌++◌, if◌then◌else◌, [], ◌∷◌, None, Some, bytes_eq, ◌+◌}
use Rattle.bp_syntax.specs.declared.exprs.Op.{Op}

-- a name as written, braces included, and the place of its first byte
pub record Name : Type 0 where
  pub text : List ℕ
  pub at : ℕ

pub data Expression : Type 0 where
  Constant : (value : Bool) → Expression
  Variable : (name : Name) → Expression
  Negation : (e : Expression) → Expression
  Operation : (op : Op) (left right : Expression) → Expression

-- the test of a branch, a loop, an assertion or an assumption: the attempt's choice bit, or an
-- expression
pub data Decision : Type 0 where
  Choose : Decision
  Decide : (e : Expression) → Decision

mutual
  -- a sequence of statements, each with its label, and the place of its first token after the label
  pub data Block : Type 0 where
    Done : Block
    Then : (label : Option Name) (at : ℕ) (statement : Statement) (rest : Block) → Block

  pub data Statement : Type 0 where
    Skips : Statement
    GoesTo : (to : Name) → Statement
    Returns : Statement
    Assigns : (targets : List Name) (values : List Expression) → Statement
    Branches : (d : Decision) (yes no : Block) → Statement
    Loops : (d : Decision) (body : Block) → Statement
    Asserts : (d : Decision) → Statement
    Assumes : (d : Decision) → Statement
    Prints : (values : List Expression) → Statement
    Calls : (callee : Name) (arguments : List Expression) → Statement

pub record Procedure : Type 0 where
  pub name : Name
  pub formals : List Name
  pub locals : List Name
  pub body : Block

pub record Program : Type 0 where
  pub globals : List Name
  pub procedures : List Procedure

-- The procedure with a name, and the variables of a procedure.

-- the first procedure with this name
abbrev pub procedure_named : List Procedure → List ℕ → Option Procedure
procedure_named [] text = None
procedure_named (q ∷ qs) text =
    if bytes_eq q.name.text text then Some q else procedure_named qs text

-- the formals of a procedure, then its declared locals
abbrev pub variables : Procedure → List Name
variables p = p.formals ++ p.locals

-- The number of statements of a program, plus one for each procedure's end.

abbrev mutual
  pub block_size : Block → ℕ
  block_size Done = 0
  block_size (Then label at s t) = size s + block_size t

  pub size : Statement → ℕ
  size (Branches d a b) = 1 + (block_size a + block_size b)
  size (Loops d a) = 1 + block_size a
  size s = 1

abbrev pub procedures_size : List Procedure → ℕ
procedures_size [] = 0
procedures_size (p ∷ ps) = block_size p.body + 1 + procedures_size ps
