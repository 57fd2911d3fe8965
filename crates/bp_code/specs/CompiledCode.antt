-- The code of a program: its instructions in text order, one for each statement, numbered from 0
-- over all procedures, and one return after each procedure's statements.
use Rattle.std.specs.Prelude.{ℕ, List, Option, IsSome, option_map, if◌then◌else◌, ◌+◌, [], ◌∷◌, ◌++◌, None, Some, length, map, unwrap_or}
use Rattle.std.specs.Option.{option_or}
use Rattle.bp_syntax.specs.Ast.{Name, Procedure, variables, Expression, Constant, Variable, Negation, Operation, Decision, Choose, Decide, Block, Done, Then, Statement, Skips, GoesTo, Returns, Assigns, Branches, Loops, Asserts, Assumes, Prints, Calls, Program}
pub use Rattle.bp_syntax.specs.Ast.{block_size, size, procedures_size}
use Rattle.bp_syntax.specs.Errors.{first_index}
use Rattle.bp_flat.specs.declared.slots.Slot.{Slot}
use Rattle.bp_flat.specs.declared.slots.Slot.TheVariants.{Global, Local}
use Rattle.bp_flat.specs.Flat.{Formula, Bit, At, Inverse, Joined, Instruction, Skip, Goto, Return, Assign, If, While, Assert, Assume, Print, Call, Heading, heading, Flat, flat, heading_named}
use Rattle.bp_flat.specs.Moves.{has_label}

-- Slots of variables.

-- the slot of a variable: its index among the formals and then the locals, or else among the
-- globals
abbrev pub slot_of : List Name → Procedure → List ℕ → Option Slot
slot_of globals p x =
    let own = option_map Local (first_index (variables p) x) in
    option_or own (option_map Global (first_index globals x))

-- the variable is a formal, a local or a global
abbrev pub HasSlot : List Name → Procedure → Name → Type 0
HasSlot globals p x = IsSome (slot_of globals p x.text)

-- the meaning of the names in a procedure's statements, and the number of its first instruction
pub record Environment : Type 0 where
  pub globals : List Name
  pub procedure : Procedure
  pub start : ℕ
  pub headings : List Heading

-- the number of the first statement with this label, if the block's first instruction has the
-- number n
abbrev mutual
  pub label_number : Block → ℕ → List ℕ → Option ℕ
  label_number Done n x = None
  label_number (Then label at s t) n x =
      if has_label label x
      then Some n
      else option_or (inner_number s n x) (label_number t (n + size s) x)

  pub inner_number : Statement → ℕ → List ℕ → Option ℕ
  inner_number (Branches d a b) n x =
      option_or (label_number a (n + 1) x) (label_number b (n + 1 + block_size a) x)
  inner_number (Loops d a) n x = label_number a (n + 1) x
  inner_number s n x = None

-- the number at which control enters a block whose first instruction would have the number n, if
-- next follows the block
abbrev pub block_entry : Block → ℕ → ℕ → ℕ
block_entry Done n next = next
block_entry (Then label at s t) n next = n

module _ (environment : Environment) where
  -- the slot of a declared variable
  abbrev pub slot_in : List ℕ → Slot
  slot_in x = unwrap_or (slot_of environment.globals environment.procedure x) (Global 0)

  abbrev pub slots_in : List Name → List Slot
  slots_in xs = map (λ x. slot_in x.text) xs

  abbrev pub formula_in : Expression → Formula
  formula_in (Constant b) = Bit b
  formula_in (Variable x) = At (slot_in x.text)
  formula_in (Negation e) = Inverse (formula_in e)
  formula_in (Operation op a b) = Joined op (formula_in a) (formula_in b)

  abbrev pub formulas_in : List Expression → List Formula
  formulas_in es = map formula_in es

  abbrev pub test_in : Decision → Option Formula
  test_in Choose = None
  test_in (Decide e) = Some (formula_in e)

  -- the first instruction of a declared procedure
  abbrev pub callee_in : List ℕ → ℕ
  callee_in x = unwrap_or (option_map (λ h. h.entry) (heading_named environment.headings x)) 0

  -- the number of a label of the procedure
  abbrev pub label_in : List ℕ → ℕ
  label_in x = unwrap_or (label_number environment.procedure.body environment.start x) 0

  -- a block from the number n on, and a statement at the number n, if next follows it
  abbrev mutual
    pub block_code : Block → ℕ → ℕ → List Instruction
    block_code Done n next = []
    block_code (Then label at s t) n next =
        let after = n + size s in
        statement_code s n (block_entry t after next) ++ block_code t after next

    pub statement_code : Statement → ℕ → ℕ → List Instruction
    statement_code Skips n next = Skip next ∷ []
    statement_code (GoesTo x) n next = Goto (label_in x.text) ∷ []
    statement_code Returns n next = Return ∷ []
    statement_code (Assigns xs es) n next = Assign (slots_in xs) (formulas_in es) next ∷ []
    statement_code (Branches d a b) n next =
        let second = n + 1 + block_size a in
        If (test_in d) (block_entry a (n + 1) next) (block_entry b second next)
        ∷ (block_code a (n + 1) next ++ block_code b second next)
    statement_code (Loops d a) n next =
        While (test_in d) (block_entry a (n + 1) n) next ∷ block_code a (n + 1) n
    statement_code (Asserts d) n next = Assert (test_in d) next ∷ []
    statement_code (Assumes d) n next = Assume (test_in d) next ∷ []
    statement_code (Prints es) n next = Print (formulas_in es) next ∷ []
    statement_code (Calls x es) n next = Call (callee_in x.text) (formulas_in es) next ∷ []

  -- a code with the instructions of a block added to it, and with those of a statement
  abbrev pub with_block : List Instruction → Block → ℕ → List Instruction
  with_block code l next = code ++ block_code l (length code) next

  abbrev pub with_statement : List Instruction → Statement → ℕ → List Instruction
  with_statement code s next = code ++ statement_code s (length code) next

  -- the instructions of the environment's procedure, with the return at its end
  abbrev pub procedure_code : List Instruction
  procedure_code =
      let body = environment.procedure.body in
      let start = environment.start in
      block_code body start (start + block_size body) ++ Return ∷ []

abbrev pub heading_of : Procedure → ℕ → Heading
heading_of p n = heading p.name.text (length p.formals) (length p.locals) n

-- the headings of procedures whose instructions begin at the number n
abbrev pub headings_from : ℕ → List Procedure → List Heading
headings_from n [] = []
headings_from n (p ∷ ps) = heading_of p n ∷ headings_from (n + block_size p.body + 1) ps

-- the meaning of the names in a procedure whose instructions begin at the number n
abbrev pub environment_at : List Name → List Heading → Procedure → ℕ → Environment
environment_at globals headings p n =
    record { globals = globals; procedure = p; start = n; headings = headings }

-- the instructions of procedures from the number n on
abbrev pub procedures_code : List Name → List Heading → ℕ → List Procedure → List Instruction
procedures_code globals headings n [] = []
procedures_code globals headings n (p ∷ ps) =
    let after = n + block_size p.body in
    block_code (environment_at globals headings p n) p.body n after
    ++ (Return ∷ procedures_code globals headings (after + 1) ps)

-- the code of a program
abbrev pub flat_of : Program → Flat
flat_of t =
    let headings = headings_from 0 t.procedures in
    flat headings (length t.globals) (procedures_code t.globals headings 0 t.procedures) t
