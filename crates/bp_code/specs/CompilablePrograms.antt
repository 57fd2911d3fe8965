-- Programs that have a code; no public contract names them, since each well-formed program is one.
-- Each name in them is declared, calls have as many arguments as formals, and slots and numbers of
-- instructions fit.
use Rattle.std.specs.Prelude.{◌≡◌, ℕ, ◌+◌, List, [], ◌∷◌, ◌++◌, drop, ◌^◌, ◌<◌, ◌≤◌, Some, IsSome, length}
use Rattle.bp_syntax.specs.Ast.{Block, Done, Then, Statement, Branches, Loops, size, Name, Expression, Skips, GoesTo, Returns, Assigns, Asserts, Assumes, Prints, Calls, Procedure, Program}
use Rattle.bp_syntax.specs.NamesIn.{EachName, NamesInExpressions, NamesInDecision}
use Rattle.bp_flat.specs.declared.limits.TheConstants.{SLOTS}
use Rattle.bp_flat.specs.Moves.{from_label, procedure_named}
use Rattle.bp_code.specs.declared.layout.Layout.{Layout}
use Rattle.bp_code.specs.CompiledCode.{HasSlot, procedures_size}

-- The table of a procedure's layout. Only private contracts name it.

-- the sizes of the statements of a block, at any depth, in the order of the text, and of those
-- inside a statement
abbrev mutual
  pub block_sizes : Block → List ℕ
  block_sizes Done = []
  block_sizes (Then label at s t) = size s ∷ (inner_sizes s ++ block_sizes t)

  pub inner_sizes : Statement → List ℕ
  inner_sizes (Branches d a b) = block_sizes a ++ block_sizes b
  inner_sizes (Loops d a) = block_sizes a
  inner_sizes s = []

-- in a table that begins at the statement of number start, these sizes are those from the statement
-- of number n on
pub record AreSizesAt (table : List ℕ) (start n : ℕ) (sizes : List ℕ) : Type 0 where
  pub index : ℕ
  pub number : start + index ≡ n
  pub rest : List ℕ
  pub are : drop index table ≡ sizes ++ rest

-- these sizes in the table of a layout
abbrev pub AreSizesOf : Layout → ℕ → List ℕ → Type 0
AreSizesOf layout n sizes = AreSizesAt layout.sizes.items layout.start n sizes

-- Properties of each name in a statement, by its kind. Only private contracts name them.

-- of a variable, of a label, and of a called procedure with the arguments of the call
module _ (IsVariable IsLabel : Name → Type 0) (IsCallee : Name → List Expression → Type 0) where
  abbrev mutual
    pub IsResolved : Block → Type 0
    IsResolved Done = Unit {0}
    IsResolved (Then label at s r) = IsResolvedIn s × IsResolved r

    pub IsResolvedIn : Statement → Type 0
    IsResolvedIn Skips = Unit {0}
    IsResolvedIn (GoesTo x) = IsLabel x
    IsResolvedIn Returns = Unit {0}
    IsResolvedIn (Assigns xs es) = EachName IsVariable xs × NamesInExpressions IsVariable es
    IsResolvedIn (Branches d a b) = NamesInDecision IsVariable d × IsResolved a × IsResolved b
    IsResolvedIn (Loops d a) = NamesInDecision IsVariable d × IsResolved a
    IsResolvedIn (Asserts d) = NamesInDecision IsVariable d
    IsResolvedIn (Assumes d) = NamesInDecision IsVariable d
    IsResolvedIn (Prints es) = NamesInExpressions IsVariable es
    IsResolvedIn (Calls x es) = NamesInExpressions IsVariable es × IsCallee x es

module _ (t : Program) (p : Procedure) where
  -- a label of the procedure
  abbrev pub IsLabel : Name → Type 0
  IsLabel x = IsSome (from_label p.body Done x.text)

  -- a procedure of the program that has as many formals as there are arguments
  abbrev pub HasCallee : Name → List Expression → Type 0
  HasCallee x arguments =
      (q : Procedure) × (procedure_named t.procedures x.text ≡ Some q)
      × (length arguments ≡ length q.formals)

  abbrev pub HasNames : Block → Type 0
  HasNames block = IsResolved (HasSlot t.globals p) IsLabel HasCallee block

  abbrev pub HasNamesIn : Statement → Type 0
  HasNamesIn s = IsResolvedIn (HasSlot t.globals p) IsLabel HasCallee s

  pub record IsCompilableIn : Type 0 where
    pub few : length (p.formals ++ p.locals) ≤ SLOTS
    pub names : HasNames p.body

-- each procedure has a slot for each of its formals and locals
abbrev pub HaveFew : List Procedure → Type 0
HaveFew [] = Unit {0}
HaveFew (p ∷ ps) = (length (p.formals ++ p.locals) ≤ SLOTS) × HaveFew ps

abbrev pub AllCompilableIn : Program → List Procedure → Type 0
AllCompilableIn t [] = Unit {0}
AllCompilableIn t (p ∷ ps) = IsCompilableIn t p × AllCompilableIn t ps

pub record IsCompilable (t : Program) : Type 0 where
  pub few : length t.globals ≤ SLOTS
  pub each : AllCompilableIn t t.procedures
  pub instructions : procedures_size t.procedures < 2 ^ 32
