-- A code stands for a program: each of its instructions is one statement, or one procedure's end.
use Rattle.std.specs.Prelude.{◌≡◌, ℕ, suc, Bool, List, [], ◌∷◌, ◌++◌, Option, Some, length, slice_get, None, map}
pub use Rattle.bp_syntax.specs.Ast.{variables}
use Rattle.bp_syntax.specs.Ast.{Name, Expression, Decision, Block, Done, Then, Statement, Skips, GoesTo, Returns, Assigns, Branches, Loops, Asserts, Assumes, Prints, Calls, Procedure, Program}
use Rattle.bp_syntax.specs.Texts.{HasText}
use Rattle.bp_syntax.specs.Errors.{IsWellFormed}
use Rattle.bp_flat.specs.declared.slots.Slot.{Slot}
use Rattle.bp_flat.specs.Flat.{Formula, Instruction, Skip, Goto, Return, Assign, If, While, Assert, Assume, Print, Call, Heading, Flat}
use Rattle.bp_flat.specs.Moves.{Store, Valuation, expression_values, decision_value, after_assignment, chain, from_label, procedure_named, Frame, Leaves, Fails, Blocks, StatementEffect, effect}
use Rattle.bp_flat.specs.Steps.{Bits, with_slots, formula_values, test_value, Activation, InstructionEffect, step}

-- names with the bits of their slots, if a variable's slot is its index in these names
abbrev pub valuation_of : List Name → Bits → Valuation
valuation_of [] bits = []
valuation_of (x ∷ xs) bits = (x.text, bits 0) ∷ valuation_of xs (λ k. bits (suc k))

-- also of a store in a frame of the procedure p
abbrev pub named_store : List Name → Procedure → Store Bits → Store Valuation
named_store globals p store =
    record {
      globals = valuation_of globals store.globals;
      locals = valuation_of (variables p) store.locals;
    }

-- a place in a program: the procedure, and the statements that remain
pub record Place : Type 0 where
  pub procedure : Procedure
  pub left : Block

abbrev pub place : Procedure → Block → Place
place p r = record { procedure = p; left = r }

-- the places of a block's statements in text order, if r remains after the block
abbrev mutual
  pub places : Procedure → Block → Block → List Place
  places p Done r = []
  places p (Then label at s t) r = places_in p s label at (chain t r) ++ places p t r

  pub places_in : Procedure → Statement → Option Name → ℕ → Block → List Place
  places_in p (Branches d a b) label at r =
      place p (Then label at (Branches d a b) r) ∷ (places p a r ++ places p b r)
  places_in p (Loops d a) label at r =
      let again = Then label at (Loops d a) r in
      place p again ∷ places p a again
  places_in p s label at r = place p (Then label at s r) ∷ []

-- one place for each statement and one for each procedure's end, in text order
abbrev pub places_of : List Procedure → List Place
places_of [] = []
places_of (p ∷ ps) = places p p.body Done ++ (place p Done ∷ places_of ps)

-- the instruction of this number is at the place in the procedure p at which r remains
abbrev pub Remains : List Place → ℕ → Procedure → Block → Type 0
Remains table n p r = slice_get table n ≡ Some (place p r)

module _ (t : Program) (p : Procedure) where
  -- the formulas have the values of the expressions, whatever the store
  pub record AreValues (fs : List Formula) (es : List Expression) : Type 0 where
    pub equal : (store : Store Bits)
        → formula_values store fs ≡ expression_values (named_store t.globals p store) es

  -- the test has the value of the decision, whatever the store and the choice bit
  pub record IsTestOf (test : Option Formula) (d : Decision) : Type 0 where
    pub equal : (store : Store Bits) (bit : Bool)
        → test_value store bit test ≡ decision_value (named_store t.globals p store) bit d

  -- the slots are written as the targets are, whatever the store
  pub record AreTargets (slots : List Slot) (xs : List Name) : Type 0 where
    pub equal : (store : Store Bits) (bits : List Bool)
        → named_store t.globals p (with_slots store slots bits)
        ≡ after_assignment (named_store t.globals p store) xs bits

-- The instruction of a place: it has the statement's kind, the same values, and successors for the
-- places to which the statement leads. r remains after the statement.
module _ (t : Program) (table : List Place) (p : Procedure) where
  pub record IsSkip (r : Block) (i : Instruction) : Type 0 where
    pub next : ℕ
    pub is : i ≡ Skip next
    pub next_is : Remains table next p r

  pub record IsJump (label : Name) (i : Instruction) : Type 0 where
    pub next : ℕ
    pub left : Block
    pub is : i ≡ Goto next
    pub left_is : from_label p.body Done label.text ≡ Some left
    pub next_is : Remains table next p left

  pub record IsAssignment (names : List Name) (es : List Expression) (r : Block) (i : Instruction)
      : Type 0 where
    pub targets : List Slot
    pub values : List Formula
    pub next : ℕ
    pub is : i ≡ Assign targets values next
    pub targets_are : AreTargets t p targets names
    pub values_are : AreValues t p values es
    pub next_is : Remains table next p r

  -- a test that continues at one place if it is 1, and at another if it is 0
  pub record IsBranch (d : Decision) (taken other : Block) (i : Instruction) : Type 0 where
    pub test : Option Formula
    pub next : ℕ
    pub else_next : ℕ
    pub is : i ≡ If test next else_next
    pub test_is : IsTestOf t p test d
    pub next_is : Remains table next p taken
    pub else_is : Remains table else_next p other

  pub record IsLoop (d : Decision) (taken other : Block) (i : Instruction) : Type 0 where
    pub test : Option Formula
    pub next : ℕ
    pub else_next : ℕ
    pub is : i ≡ While test next else_next
    pub test_is : IsTestOf t p test d
    pub next_is : Remains table next p taken
    pub else_is : Remains table else_next p other

  pub record IsAssertion (d : Decision) (r : Block) (i : Instruction) : Type 0 where
    pub test : Option Formula
    pub next : ℕ
    pub is : i ≡ Assert test next
    pub test_is : IsTestOf t p test d
    pub next_is : Remains table next p r

  pub record IsAssumption (d : Decision) (r : Block) (i : Instruction) : Type 0 where
    pub test : Option Formula
    pub next : ℕ
    pub is : i ≡ Assume test next
    pub test_is : IsTestOf t p test d
    pub next_is : Remains table next p r

  pub record IsPrint (es : List Expression) (r : Block) (i : Instruction) : Type 0 where
    pub values : List Formula
    pub next : ℕ
    pub is : i ≡ Print values next
    pub values_are : AreValues t p values es
    pub next_is : Remains table next p r

  pub record IsCall (name : Name) (es : List Expression) (r : Block) (i : Instruction)
      : Type 0 where
    pub callee : ℕ
    pub arguments : List Formula
    pub next : ℕ
    pub procedure : Procedure
    pub is : i ≡ Call callee arguments next
    pub procedure_is : procedure_named t.procedures name.text ≡ Some procedure
    pub arity : length es ≡ length procedure.formals
    pub arguments_are : AreValues t p arguments es
    pub callee_is : Remains table callee procedure procedure.body
    pub next_is : Remains table next p r

  abbrev pub CarriesOut : Statement → Option Name → ℕ → Block → Instruction → Type 0
  CarriesOut Skips label at r i = IsSkip r i
  CarriesOut (GoesTo x) label at r i = IsJump x i
  CarriesOut Returns label at r i = i ≡ Return
  CarriesOut (Assigns xs es) label at r i = IsAssignment xs es r i
  CarriesOut (Branches d a b) label at r i = IsBranch d (chain a r) (chain b r) i
  CarriesOut (Loops d a) label at r i = IsLoop d (chain a (Then label at (Loops d a) r)) r i
  CarriesOut (Asserts d) label at r i = IsAssertion d r i
  CarriesOut (Assumes d) label at r i = IsAssumption d r i
  CarriesOut (Prints es) label at r i = IsPrint es r i
  CarriesOut (Calls x es) label at r i = IsCall x es r i

  -- the instruction does the next statement; if nothing remains, it returns
  abbrev pub Does : Block → Instruction → Type 0
  Does Done i = i ≡ Return
  Does (Then label at s r) i = CarriesOut s label at r i

-- the heading is that of the procedure
pub record Heads (table : List Place) (p : Procedure) (h : Heading) : Type 0 where
  pub name : h.name ≡ p.name.text
  pub formals : h.formals ≡ length p.formals
  pub locals : h.locals ≡ length p.locals
  pub entry : Remains table h.entry p p.body

pub record StandsFor (c : Flat) (t : Program) : Type 0 where
  pub globals : c.globals ≡ length t.globals
  pub procedures : length c.headings ≡ length t.procedures
  pub headed : (k : ℕ) (p : Procedure) → slice_get t.procedures k ≡ Some p
      → (h : Heading) × (slice_get c.headings k ≡ Some h) × Heads (places_of t.procedures) p h
  pub size : length c.instructions ≡ length (places_of t.procedures)
  pub each : (n : ℕ) (p : Procedure) (r : Block) → Remains (places_of t.procedures) n p r
      → (i : Instruction) × (slice_get c.instructions n ≡ Some i)
      × Does t (places_of t.procedures) p r i

-- the instruction of this number begins the procedure that was found
pub record IsEntryOf (t : Program) (found : Option Procedure) (n : ℕ) : Type 0 where
  pub procedure : Procedure
  pub is : found ≡ Some procedure
  pub begins : Remains (places_of t.procedures) n procedure procedure.body

-- The places in the text at which statements begin, in the order of the instructions.

-- the place of the next statement, or None if nothing remains
abbrev pub start_of_block : Block → Option ℕ
start_of_block Done = None
start_of_block (Then label at s t) = Some at

-- one for each instruction of the code that stands for the program
abbrev pub starts_of : Program → List (Option ℕ)
starts_of t = map (λ p. start_of_block p.left) (places_of t.procedures)

-- also of the statements of a block, at any depth, and of those inside a statement
abbrev mutual
  pub block_starts : Block → List (Option ℕ)
  block_starts Done = []
  block_starts (Then label at s t) = Some at ∷ (inner_starts s ++ block_starts t)

  pub inner_starts : Statement → List (Option ℕ)
  inner_starts (Branches d a b) = block_starts a ++ block_starts b
  inner_starts (Loops d a) = block_starts a
  inner_starts s = []

-- the code stands for its tree, which is the well-formed program of some text
pub record IsOfProgram (c : Flat) : Type 0 where
  pub well_formed : IsWellFormed c.tree
  pub of_text : HasText c.tree
  pub stands : StandsFor c c.tree

-- Code and program step alike.

-- the activation is at the place of the frame's remaining statements, and has its locals
pub record ShowsFrame (t : Program) (a : Activation) (f : Frame) : Type 0 where
  pub left : Remains (places_of t.procedures) a.number f.procedure f.left
  pub locals : f.locals ≡ valuation_of (variables f.procedure) a.locals

-- each activation of the stack shows its frame
abbrev pub ShowsStack : Program → List Activation → List Frame → Type 0
ShowsStack t [] [] = Unit {0}
ShowsStack t (a ∷ below) (f ∷ fs) = ShowsFrame t a f × ShowsStack t below fs
ShowsStack t [] (f ∷ fs) = ⊥
ShowsStack t (a ∷ below) [] = ⊥

-- the same globals and the same stack, an assertion of 0 in both, or an assumption of 0 in both
abbrev pub SameEffect : Program → InstructionEffect → StatementEffect → Type 0
SameEffect t (Leaves bits stack) (Leaves g fs) =
    (g ≡ valuation_of t.globals bits) × ShowsStack t stack fs
SameEffect t Fails Fails = Unit {0}
SameEffect t Blocks Blocks = Unit {0}
SameEffect t o e = ⊥

-- if an activation shows a frame, its next instruction has the effect of the program's next
-- statement: each instruction is one move, each move one instruction, and an assumption of 0 is
-- neither
abbrev pub StepsAlike : Flat → Program → Type 0
StepsAlike c t =
    (bits : Bits) (a : Activation) (below : List Activation)
    (f : Frame) (fs : List Frame) (bit : Bool)
    → ShowsFrame t a f
    → ShowsStack t below fs
    → SameEffect t (step c.instructions bits a below bit)
    (effect t.procedures f.left (valuation_of t.globals bits) f fs bit)
