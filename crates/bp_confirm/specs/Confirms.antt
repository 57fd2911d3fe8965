-- When a history confirms reported steps, and why none does.
use Rattle.std.specs.Prelude.{ℕ, List, Option, None, Some, slice_get, ◌≡◌, ◌≢◌, ◌<◌, ◌≤◌, ◌-◌, take, length, Bool, ◌+◌, true, false, [], ◌∷◌, ◌++◌}
use Rattle.std.specs.List.{AllByRecursion}
use Rattle.bp_text.specs.declared.lines.Position.{Position}
use Rattle.bp_text.specs.Lines.{position_at}
use Rattle.bp_syntax.specs.Ast.{Program}
use Rattle.bp_flat.specs.StandsFor.{starts_of}
use Rattle.bp_flat.specs.Moves.{Valuation, Configuration}
use Rattle.bp_machine.specs.declared.calls.Call.{Call}
use Rattle.bp_machine.specs.Histories.{stack_of, configuration_after, is_terminated, IsAllowed, is_granted}
use Rattle.bp_machine.specs.Setups.{SetupOf, threads}
use Rattle.bp_machine.specs.declared.calls.Reply.{Reply}
use Rattle.bp_machine.specs.declared.tops.Top.{Top}
use Rattle.bp_machine.specs.Runs.{IsTop}
use Rattle.bp_confirm.specs.declared.source_points.SourcePoint.{SourcePoint}
use Rattle.bp_confirm.specs.declared.step_lines.ThreadPlace.{ThreadPlace}
use Rattle.bp_confirm.specs.declared.step_lines.ThreadPlace.TheVariants.{Ended, End, Statement}
use Rattle.bp_confirm.specs.declared.confirmations.Difference.{Difference}
use Rattle.bp_confirm.specs.Steps.{value_seen, IsFirstMismatch, stands_at, StepOf, IsStepOf, Takes, StepLineOf, step_of, steps_of}
use Rattle.bp_confirm.specs.declared.confirmations.StepError.{StepError}
use Rattle.bp_confirm.specs.declared.confirmations.StepError.TheVariants as error
use Rattle.bp_confirm.specs.declared.confirmations.StepReason.{StepReason}
use Rattle.bp_confirm.specs.declared.confirmations.StepReason.TheVariants.{Elsewhere, Ambiguous, Finished, Refused, Differs}
use Rattle.bp_confirm.specs.declared.confirmations.StepRefusal.{StepRefusal}
use Rattle.bp_confirm.specs.InferredBits.{IsAmbiguousOnStack, LastBits, FollowAfter}

-- The position of a thread in the text of a program.

-- it is at the statement that begins at this offset, or at a procedure's end; without an
-- instruction it has ended
abbrev pub thread_place_at_start : List ℕ → Option (Option ℕ) → ThreadPlace
thread_place_at_start text None = Ended
thread_place_at_start text (Some None) = End
thread_place_at_start text (Some (Some at)) = Statement (position_at text at)

-- its position if it continues at the instruction of this number of a program of the text
abbrev pub thread_place_of : List ℕ → Program → Option ℕ → ThreadPlace
thread_place_of text t None = Ended
thread_place_of text t (Some number) = thread_place_at_start text (slice_get (starts_of t) number)

-- A device: also by the points of the instructions.
abbrev pub thread_place_at : Option Position → ThreadPlace
thread_place_at None = End
thread_place_at (Some position) = Statement position

abbrev pub thread_place_at_point : Option SourcePoint → ThreadPlace
thread_place_at_point None = Ended
thread_place_at_point (Some point) = thread_place_at point.position

abbrev pub thread_place_in : List SourcePoint → Option ℕ → ThreadPlace
thread_place_in points None = Ended
thread_place_in points (Some number) = thread_place_at_point (slice_get points number)

-- The last step of a history that changed a thread's view of a variable.

-- seen k is the view after the first k steps; none of the steps after step m, up to step n, changes
-- it
abbrev pub NoneChanges : (ℕ → Option Bool) → ℕ → ℕ → Type 0
NoneChanges seen m n = (k : ℕ) → m < k → k ≤ n → seen k ≡ seen (k - 1)

-- step k changes it, and no later one of the first n does
pub record ChangesLast (seen : ℕ → Option Bool) (n k : ℕ) : Type 0 where
  pub some : 0 < k
  pub within : k ≤ n
  pub changes : seen k ≢ seen (k - 1)
  pub last : NoneChanges seen k n

-- the last of the first n steps that changes it, from 1; None if no step does
abbrev pub IsLastChange : (ℕ → Option Bool) → ℕ → Option ℕ → Type 0
IsLastChange seen n None = NoneChanges seen 0 n
IsLastChange seen n (Some k) = ChangesLast seen n k

-- the value of a variable that thread i sees after a history
abbrev pub seen_by : Program → SetupOf → ℕ → List ℕ → List Call → Option Bool
seen_by t s i name h =
    let c = configuration_after t s h in value_seen c.globals (stack_of c i) name

-- the value that it sees after the first k attempts of the history
abbrev pub seen_after : Program → SetupOf → List Call → ℕ → List ℕ → ℕ → Option Bool
seen_after t s h i name k = seen_by t s i name (take k h)

-- After a history this is the first of these values that thread i does not see: the value that it
-- sees instead, and the last attempt that changed its view of the name.
pub record IsDifference
    (t : Program) (s : SetupOf) (h : List Call) (i : ℕ) (vs : Valuation) (d : Difference)
    : Type 0 where
  pub mismatch : IsFirstMismatch (configuration_after t s h) i vs d.place d.seen
  pub changed : IsLastChange (seen_after t s h i mismatch.value.0) (length h) d.changed

-- When a history confirms reported steps, and why none does.

-- thread i continues at the instruction of this number, or has no frame
abbrev pub GoesOnAt : Program → Configuration → ℕ → Option ℕ → Type 0
GoesOnAt t c i None = stack_of c i ≡ []
GoesOnAt t c i (Some number) = (top : Top) × IsTop t c i top × (top.number ≡ number)

-- after the history h, at the step x
module _ (t : Program) (s : SetupOf) (h : List Call) (x : StepOf) where
  -- no attempt takes it, whatever its choice bit
  abbrev pub IsStuck : Type 0
  IsStuck = (call : Call) → IsStepOf t s h x call → ⊥

  abbrev pub StandsAtPlace : Bool → Type 0
  StandsAtPlace b = stands_at x.place (stack_of (configuration_after t s h) x.thread) ≡ b

  -- an attempt takes it, but these later steps do not tell which way its thread goes
  pub record IsUnclear (later : List StepOf) : Type 0 where
    pub call : Call
    pub takes : IsStepOf t s h x call
    pub ambiguous :
        IsAmbiguousOnStack t x.thread later (stack_of (configuration_after t s h) x.thread)

  -- its thread may make an attempt; with either choice bit the reply is r, which is not a step
  pub record IsAnswered (r : Reply) : Type 0 where
    pub call : Call
    pub thread : call.thread ≡ x.thread
    pub allowed : IsAllowed t s h call
    pub each : (y : Call) → y.thread ≡ x.thread → IsAllowed t s h y → y.reply ≡ r
    pub refused : is_granted r ≡ false

  -- an attempt takes it but for its values: this is the first that the thread does not see after it
  pub record SeesOther (d : Difference) : Type 0 where
    pub call : Call
    pub takes : IsStepOf t s h (record x { values = [] }) call
    pub differs : IsDifference t s (h ++ call ∷ []) x.thread x.values d

  -- Why it is refused, before these later steps: the first reason that applies.
  abbrev pub IsReason : List StepOf → StepReason → Type 0
  IsReason later Elsewhere = StandsAtPlace false
  IsReason later Finished = StandsAtPlace true × (is_terminated s h x.thread ≡ true)
  IsReason later (Refused r) = StandsAtPlace true × IsAnswered r
  IsReason later (Differs d) = StandsAtPlace true × SeesOther d
  IsReason later Ambiguous = IsUnclear later

-- the reason says that no attempt takes a step; an ambiguous one asks for a column
abbrev pub ForStuck : StepReason → Type 0 → Type 0
ForStuck Ambiguous P = Unit {0}
ForStuck reason P = P

-- Why the steps of these lines are not followed with these last bits: the history takes those
-- before line n, with the inferred bits. After it this is the first reason against the step of line
-- n, whose thread continues at the instruction of this number, at this position in the text. No
-- history of the program in its setup takes the first n steps, whatever its choice bits.
pub record IsStepRefusal
    (text : List ℕ) (t : Program) (s : SetupOf) (last : LastBits) (lines : List StepLineOf)
    (r : StepRefusal)
    : Type 0 where
  pub before : List StepLineOf
  pub step : StepLineOf
  pub later : List StepLineOf
  pub whole : lines ≡ before ++ step ∷ later
  pub line : r.line ≡ length before + 1
  pub thread : r.thread ≡ step.thread
  pub location : r.location ≡ step.location
  pub history : List Call
  pub follows :
      FollowAfter t s last [] (steps_of text before) (steps_of text (step ∷ later)) history
  pub number : GoesOnAt t (configuration_after t s history) r.thread r.number
  pub thread_place : r.thread_place ≡ thread_place_of text t r.number
  pub reason : IsReason t s history (step_of text step) (steps_of text later) r.reason
  pub none :
      ForStuck r.reason
      ((g : List Call) → Takes t s (steps_of text (before ++ step ∷ [])) g → ⊥)

-- the steps are refused in this way, or memory was refused
abbrev pub IsNotFollowed
    : List ℕ → Program → SetupOf → LastBits → List StepLineOf → StepError → Type 0
IsNotFollowed text t s last lines (error.Refusal r) = IsStepRefusal text t s last lines r
IsNotFollowed text t s last lines error.Memory = Unit {0}

-- each line is one of a thread of the setup
abbrev pub AreOfThreads : SetupOf → List StepLineOf → Type 0
AreOfThreads s lines = AllByRecursion (λ x. x.thread < threads s) lines
