-- When a text of reported steps is confirmed, and how it is refused.
use Rattle.std.specs.Prelude.{◌≡◌, ◌<◌, ◌≤◌, ℕ, ◌+◌, Bool, true, false, List, ◌∷◌, ◌++◌, length, if◌then◌else◌, map, nat_lt}
use Rattle.std.specs.List.{AllByRecursion}
use Rattle.std.specs.Borrow.{Bor}
use Rattle.bp_syntax.specs.Ast.{Program}
use Rattle.bp_flat.specs.Moves.{Valuation}
use Rattle.bp_machine.specs.Setups.{SetupOf, threads}
use Rattle.bp_machine.specs.declared.limits.TheConstants.{MAX_CONTEXTS}
use Rattle.bp_machine.specs.Histories.{IsLeastWithin}
use Rattle.bp_machine.specs.declared.calls.Call.{Call}
use Rattle.bp_machine.specs.Sessions.{Stands}
use Rattle.bp_trace.specs.declared.limits.TheConstants.{MAX_SCHEDULE}
use Rattle.bp_code.specs.WellFormedTexts.{IsWellFormedText}
use Rattle.bp_source.specs.Names.{declares}
use Rattle.bp_source.specs.declared.tasks.ContextBound.{ContextBound}
use Rattle.bp_source.specs.declared.tasks.ContextBound.TheVariants.{Kept, AsUsed}
use Rattle.bp_confirm.specs.Steps.{StepLineOf, steps_of, HasLines, IsBadLine}
use Rattle.bp_confirm.specs.declared.confirmations.ConfirmError.{ConfirmError}
use Rattle.bp_confirm.specs.declared.confirmations.ConfirmError.TheVariants as error
use Rattle.bp_confirm.specs.declared.declarations.Undeclared.{Undeclared}
use Rattle.bp_confirm.specs.declared.declarations.Undeclared.TheVariants.{Thread, Variable}
use Rattle.bp_confirm.specs.declared.confirmations.StepRefusal.{StepRefusal}
use Rattle.bp_confirm.specs.declared.histories.Confirmed.{Confirmed}
use Rattle.bp_confirm.specs.Confirms.{IsStepRefusal}
use Rattle.bp_confirm.specs.InferredBits.{zeros, IsConfirmed, IsTaken}
use Rattle.bp_confirm.specs.declared.choices.LastChoice.{LastChoice}

-- Lines of threads and variables that are declared, and the first line of another one.

abbrev pub AreDeclared : Program → Valuation → Type 0
AreDeclared t vs = AllByRecursion (λ v. declares t v.0 ≡ true) vs

-- value n of these, from 0, is the first whose variable is not declared
pub record IsFirstUndeclared (t : Program) (vs : Valuation) (n : ℕ) : Type 0 where
  pub before : Valuation
  pub value : List ℕ × Bool
  pub after : Valuation
  pub parts : vs ≡ before ++ value ∷ after
  pub first : AreDeclared t before
  pub number : n ≡ length before
  pub undeclared : declares t value.0 ≡ false

-- the line is of a thread of the setup and of variables of the program
pub record IsDeclared (t : Program) (s : SetupOf) (x : StepLineOf) : Type 0 where
  pub thread : x.thread < threads s
  pub variables : AreDeclared t x.values

abbrev pub AreDeclaredLines : Program → SetupOf → List StepLineOf → Type 0
AreDeclaredLines t s lines = AllByRecursion (IsDeclared t s) lines

-- line n is the first that is not
pub record IsFirstUndeclaredLine
    (t : Program) (s : SetupOf) (lines : List StepLineOf) (n : ℕ) (Is : StepLineOf → Type 0)
    : Type 0 where
  pub before : List StepLineOf
  pub line : StepLineOf
  pub later : List StepLineOf
  pub parts : lines ≡ before ++ line ∷ later
  pub first : AreDeclaredLines t s before
  pub number : n ≡ length before + 1
  pub is : Is line

-- the line is of this thread, which the setup does not have
pub record IsOfNoThread (s : SetupOf) (thread : ℕ) (x : StepLineOf) : Type 0 where
  pub is : x.thread ≡ thread
  pub none : threads s ≤ thread

-- value n of the line, from 0, is the first of an undeclared variable
pub record IsOfNoVariable (t : Program) (s : SetupOf) (value : ℕ) (x : StepLineOf) : Type 0 where
  pub thread : x.thread < threads s
  pub variable : IsFirstUndeclared t x.values value

-- The bound of contexts of the trace that is written of reported steps.

abbrev pub thread_of : StepLineOf → ℕ
thread_of x = x.thread

-- as many contexts as a setup can allow
abbrev pub contexts_allowed : ℕ → ℕ
contexts_allowed used = if nat_lt MAX_CONTEXTS used then MAX_CONTEXTS else used

-- a setup allows as many contexts as the steps of these lines use
pub record AllowsAsUsed (s : SetupOf) (lines : List StepLineOf) (r : SetupOf) : Type 0 where
  pub used : ℕ
  pub least : IsLeastWithin used (map thread_of lines)
  pub is : r ≡ record s { contexts = contexts_allowed used }

-- the setup of the trace: the given one, or one that allows the number of contexts used
abbrev pub IsSetupFor : SetupOf → List StepLineOf → ContextBound → SetupOf → Type 0
IsSetupFor s lines Kept r = r ≡ s
IsSetupFor s lines AsUsed r = AllowsAsUsed s lines r

-- A device: the undeclared name or thread of a line.

-- each of these texts says which variable is meant
abbrev pub AreKnown : Program → List (Bor (List ℕ)) → Type 0
AreKnown t names = AllByRecursion (λ name. declares t name.now ≡ true) names

-- line n is the first with an undeclared thread or variable, which is this one
abbrev pub IsUndeclared : Program → SetupOf → List StepLineOf → ℕ → Undeclared → Type 0
IsUndeclared t s lines n (Thread thread) = IsFirstUndeclaredLine t s lines n (IsOfNoThread s thread)
IsUndeclared t s lines n (Variable value) = IsFirstUndeclaredLine t s lines n
    (IsOfNoVariable t s value)

-- the error of line n
abbrev pub error_of_undeclared : ℕ → Undeclared → ConfirmError
error_of_undeclared n (Thread thread) = error.NoThread n thread
error_of_undeclared n (Variable value) = error.NoVariable n value

-- a text of steps, of a program in this setup
module _ (t : Program) (s : SetupOf) (steps : List ℕ) where
  -- the text is neither empty nor too long
  abbrev pub HasFitLength : Type 0
  HasFitLength = (0 < length steps) × (length steps ≤ MAX_SCHEDULE)

  -- it also has these lines
  pub record AreRead (lines : List StepLineOf) : Type 0 where
    pub fit : HasFitLength
    pub has : HasLines steps lines

  -- each line is of a thread of the setup and of variables of the program
  pub record AreTold (lines : List StepLineOf) : Type 0 where
    pub read : AreRead lines
    pub declared : AreDeclaredLines t s lines

  -- the first line that is not
  pub record HasUndeclaredLine (n : ℕ) (Is : StepLineOf → Type 0) : Type 0 where
    pub lines : List StepLineOf
    pub read : AreRead lines
    pub undeclared_line : IsFirstUndeclaredLine t s lines n Is

  -- why it has no such lines; it does not say when memory is refused
  abbrev pub IsUntold : ConfirmError → Type 0
  IsUntold error.TooLong = MAX_SCHEDULE < length steps
  IsUntold error.NoSteps = length steps ≡ 0
  IsUntold (error.Line n) = HasFitLength × IsBadLine steps n
  IsUntold (error.NoThread n thread) = HasUndeclaredLine n (IsOfNoThread s thread)
  IsUntold (error.NoVariable n value) = HasUndeclaredLine n (IsOfNoVariable t s value)
  IsUntold error.Memory = HasFitLength
  IsUntold f = ⊥

  -- its places are those of the text of the program, with this bound on contexts
  module _ (text : List ℕ) (bound : ContextBound) where
    -- this history takes the steps, in this setup, and its deadlock depends on these last bits
    pub record IsConfirmedText (setup : SetupOf) (h : List Call) (choices : List LastChoice)
        : Type 0 where
      pub lines : List StepLineOf
      pub told : AreTold lines
      pub allows : IsSetupFor s lines bound setup
      pub confirmed : IsConfirmed t setup (steps_of text lines) h choices

    -- this history takes the steps, in this setup
    pub record IsTakenText (setup : SetupOf) (h : List Call) : Type 0 where
      pub lines : List StepLineOf
      pub told : AreTold lines
      pub allows : IsSetupFor s lines bound setup
      pub taken : IsTaken t setup (steps_of text lines) h

    -- no history takes the steps up to this one
    pub record IsRefusedText (r : StepRefusal) : Type 0 where
      pub lines : List StepLineOf
      pub told : AreTold lines
      pub setup : SetupOf
      pub allows : IsSetupFor s lines bound setup
      pub refused : IsStepRefusal text t setup zeros lines r

    -- this history takes the steps, in the setup of this session, which stands after it; in the
    -- program of a well-formed text its last bits are those of a deadlock, if there is one
    pub record ConfirmsTo (x : Confirmed) : Type 0 where
      pub taken : IsTakenText x.session.setup x.history.items
      pub confirmed :
          IsWellFormedText text t
          → IsConfirmedText x.session.setup x.history.items x.choices.items
      pub stands : Stands t x.session x.history.items

    -- why the steps are not confirmed: the first reason that applies
    abbrev pub IsStepsRefusal : ConfirmError → Type 0
    IsStepsRefusal (error.Step r) = IsRefusedText r
    IsStepsRefusal f = IsUntold f
