-- Laws of reported steps and of their texts.
use Rattle.std.specs.Prelude.{◌≡◌, ◌∷◌, [], true, List, ℕ, false, ◌++◌, Some, ◌≢◌, ◌≤◌}
use Rattle.bp_syntax.specs.Ast.{Program}
use Rattle.bp_syntax.specs.Texts.{IsTextOf}
use Rattle.bp_flat.specs.Moves.{Configuration, Moves}
use Rattle.bp_machine.specs.declared.calls.Call.{Call}
use Rattle.bp_machine.specs.Histories.{stack_of, configuration_after, IsLegal}
use Rattle.bp_machine.specs.Runs.{IsBoundedRun, IsDeadlocked}
use Rattle.bp_machine.specs.Setups.{SetupOf, start, threads}
use Rattle.bp_machine.specs.declared.limits.TheConstants.{MAX_CONTEXTS, MAX_THREADS}
use Rattle.bp_code.specs.WellFormedTexts.{IsWellFormedText}
use Rattle.bp_source.specs.declared.tasks.ContextBound.{ContextBound}
use Rattle.bp_source.specs.declared.tasks.ContextBound.TheVariants.{AsUsed}
use Rattle.bp_confirm.specs.Steps.{stands_at, StepOf, SeesValues, Takes, StepLineOf, steps_of, next_location, HasLines, IsBadLine}
use Rattle.bp_confirm.specs.declared.confirmations.StepReason.TheVariants.{Ambiguous}
use Rattle.bp_confirm.specs.declared.confirmations.StepRefusal.{StepRefusal}
use Rattle.bp_confirm.specs.declared.step_lines.Location.TheVariants.{Line}
use Rattle.bp_confirm.specs.OwnSteps.{AreOwnLines, own_steps, own_steps_text}
use Rattle.bp_confirm.specs.Confirms.{IsStepRefusal, ForStuck}
use Rattle.bp_confirm.specs.InferredBits.{LastBits, IsConfirmed}
use Rattle.bp_confirm.specs.declared.choices.LastChoice.{LastChoice}
use Rattle.bp_confirm.specs.declared.confirmations.ConfirmError.{ConfirmError}
use Rattle.bp_confirm.specs.declared.confirmations.ConfirmError.TheVariants.{Memory}
use Rattle.bp_confirm.specs.ConfirmedTexts.{IsConfirmedText, IsStepsRefusal, HasFitLength}

-- Runs of a program that take reported steps, without the machine.

-- from c on the thread of the step moves as the attempt does, from the place of the step, and then
-- sees the values
pub record IsMoveOf (t : Program) (c : Configuration) (x : StepOf) (call : Call) : Type 0 where
  pub next : Configuration
  pub thread : call.thread ≡ x.thread
  pub at : stands_at x.place (stack_of c x.thread) ≡ true
  pub move : Moves t c call.thread call.bit next
  pub values : SeesValues next x.thread x.values

-- each of these attempts is the move of one step, in order
abbrev pub MovesTake : Program → Configuration → List StepOf → List Call → Type 0
MovesTake t c [] [] = Unit {0}
MovesTake t c (x ∷ xs) (call ∷ calls) =
    (first : IsMoveOf t c x call) × MovesTake t first.next xs calls
MovesTake t c xs calls = ⊥

-- a run of the program within the bounds of the setup takes the steps
pub record IsRunOfSteps (t : Program) (s : SetupOf) (steps : List StepOf) (calls : List Call)
    : Type 0 where
  pub last : Configuration
  pub run : IsBoundedRun t s calls last
  pub takes : MovesTake t (start t s) steps calls

-- Laws of reported steps.

-- at most one history confirms the same steps, and its deadlock depends on the same last bits
abbrev pub OneConfirmed : Type 0
OneConfirmed =
    (t : Program) (s : SetupOf) (steps : List StepOf) (h g : List Call)
    (choices others : List LastChoice)
    → IsConfirmed t s steps h choices
    → IsConfirmed t s steps g others
    → (h ≡ g) × (choices ≡ others)

-- if a history takes the steps and ends in a deadlock, whatever its bits, the one that confirms
-- them does so too, unless an assertion fails at its last step
abbrev pub DeadlockIsTaken : Type 0
DeadlockIsTaken =
    (t : Program) (s : SetupOf) (steps : List StepOf) (h g : List Call) (choices : List LastChoice)
    → IsConfirmed t s steps h choices
    → Takes t s steps g
    → IsDeadlocked t (configuration_after t s g)
    → (configuration_after t s h).failed ≡ false
    → (configuration_after t s g).failed ≡ false
    → IsDeadlocked t (configuration_after t s h)

-- no history of the program takes steps that are refused, unless for an ambiguous location
abbrev pub RefusedIsNotTaken : Type 0
RefusedIsNotTaken =
    (text : List ℕ) (t : Program) (s : SetupOf) (last : LastBits) (lines : List StepLineOf)
    (r : StepRefusal)
    → IsStepRefusal text t s last lines r
    → ForStuck r.reason ((g : List Call) → Takes t s (steps_of text lines) g → ⊥)

-- and no run of the program within the bounds of the setup takes them
abbrev pub RefusedHasNoRun : Type 0
RefusedHasNoRun =
    (text : List ℕ) (t : Program) (s : SetupOf) (last : LastBits) (lines : List StepLineOf)
    (r : StepRefusal)
    → IsStepRefusal text t s last lines r
    → ForStuck r.reason ((calls : List Call) → IsRunOfSteps t s (steps_of text lines) calls → ⊥)

-- nor does such a run take the steps up to the refused one
abbrev pub RefusedFrontHasNoRun : Type 0
RefusedFrontHasNoRun =
    (text : List ℕ) (t : Program) (s : SetupOf) (last : LastBits) (lines : List StepLineOf)
    (r : StepRefusal)
    → (refused : IsStepRefusal text t s last lines r)
    → let front = steps_of text (refused.before ++ refused.step ∷ []) in
    ForStuck r.reason ((calls : List Call) → IsRunOfSteps t s front calls → ⊥)

-- a step is refused as ambiguous only if its thread's next step has a line without a column
abbrev pub OnlyLinesAreAmbiguous : Type 0
OnlyLinesAreAmbiguous =
    (text : List ℕ) (t : Program) (s : SetupOf) (last : LastBits) (lines : List StepLineOf)
    (r : StepRefusal)
    → IsTextOf text t
    → (refused : IsStepRefusal text t s last lines r)
    → r.reason ≡ Ambiguous
    → (n : ℕ) × (next_location r.thread refused.later ≡ Some (Line n))

-- the own lines of a run within the bounds of the setup are not refused
abbrev pub OwnLinesAreConfirmed : Type 0
OwnLinesAreConfirmed =
    (text : List ℕ) (t : Program) (s : SetupOf) (last : LastBits) (calls : List Call)
    (end : Configuration) (lines : List StepLineOf) (r : StepRefusal)
    → IsTextOf text t
    → IsBoundedRun t s calls end
    → AreOwnLines text t (start t s) calls lines
    → IsStepRefusal text t s last lines r
    → ⊥

-- Laws of the texts of reported steps.

-- a text has at most one list of lines
abbrev pub OneReading : Type 0
OneReading =
    (text : List ℕ) (xs ys : List StepLineOf)
    → HasLines text xs
    → HasLines text ys
    → xs ≡ ys

-- a text has at most one first malformed line
abbrev pub OneBadLine : Type 0
OneBadLine = (text : List ℕ) (m n : ℕ) → IsBadLine text m → IsBadLine text n → m ≡ n

-- no text has both
abbrev pub NoBadLineOfReadTexts : Type 0
NoBadLineOfReadTexts =
    (text : List ℕ) (xs : List StepLineOf) (n : ℕ)
    → HasLines text xs
    → IsBadLine text n
    → ⊥

-- Law: a text of steps is confirmed, or it has one refusal.

-- steps of the well-formed program of a text have at most one refusal, memory aside
abbrev pub OneRefusal : Type 0
OneRefusal =
    (text : List ℕ) (t : Program) (s : SetupOf) (steps : List ℕ) (bound : ContextBound)
    (f g : ConfirmError)
    → IsWellFormedText text t
    → f ≢ Memory
    → g ≢ Memory
    → IsStepsRefusal t s steps text bound f
    → IsStepsRefusal t s steps text bound g
    → f ≡ g

-- steps that a history confirms have no refusal
abbrev pub NoRefusalOfConfirmed : Type 0
NoRefusalOfConfirmed =
    (text : List ℕ) (t : Program) (s : SetupOf) (steps : List ℕ) (bound : ContextBound)
    (setup : SetupOf) (h : List Call) (choices : List LastChoice) (f : ConfirmError)
    → IsWellFormedText text t
    → IsConfirmedText t s steps text bound setup h choices
    → IsStepsRefusal t s steps text bound f
    → f ≡ Memory

-- Laws: the text of a run's own steps is confirmed, if it is neither empty nor too long; so is a
-- deadlock at its end.

-- The text of the steps of a legal history is refused only for memory, if it is neither empty nor
-- too long. The setup is within the limit of threads, and within that of contexts if the trace
-- allows the number that the steps use.
abbrev pub OwnTextIsConfirmed : Type 0
OwnTextIsConfirmed =
    (text : List ℕ) (t : Program) (s : SetupOf) (h : List Call) (bound : ContextBound)
    (f : ConfirmError)
    → IsTextOf text t
    → threads s ≤ MAX_THREADS
    → (bound ≡ AsUsed → s.contexts ≤ MAX_CONTEXTS)
    → IsLegal t s h
    → let steps = own_steps_text (own_steps text t s h) in
    HasFitLength t s steps
    → IsStepsRefusal t s steps text bound f
    → f ≡ Memory

-- If such a history ends in a deadlock, so does the one that confirms the text of its steps, unless
-- an assertion of `?` is taken to fail at the last step.
abbrev pub OwnDeadlockIsConfirmed : Type 0
OwnDeadlockIsConfirmed =
    (text : List ℕ) (t : Program) (s : SetupOf) (h : List Call) (bound : ContextBound)
    (setup : SetupOf) (g : List Call) (choices : List LastChoice)
    → IsTextOf text t
    → threads s ≤ MAX_THREADS
    → (bound ≡ AsUsed → s.contexts ≤ MAX_CONTEXTS)
    → IsLegal t s h
    → (configuration_after t s h).failed ≡ false
    → IsDeadlocked t (configuration_after t s h)
    → let steps = own_steps_text (own_steps text t s h) in
    IsConfirmedText t s steps text bound setup g choices
    → (configuration_after t setup g).failed ≡ false
    → IsDeadlocked t (configuration_after t setup g)
