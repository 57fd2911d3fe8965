-- Devices: how steps are followed, attempt by attempt.
use Rattle.std.specs.Prelude.{ℕ, Bool, true, false, not, ◌&&◌, ◌||◌, ◌==◌, List, [], ◌∷◌, Option, None, Some, ◌+◌, slice_get, ◌≡◌, MatchBool, get_or, option_map}
use Rattle.bp_text.specs.Lines.{position_at}
use Rattle.bp_syntax.specs.Ast.{Block, Then, Branches, Loops, Choose, Program}
use Rattle.bp_flat.specs.Moves.{Frame}
use Rattle.bp_flat.specs.Flat.{Instruction, If, While, Assert, Assume}
use Rattle.bp_flat.specs.StandsFor.{starts_of}
use Rattle.bp_machine.specs.declared.calls.Call.{Call}
use Rattle.bp_machine.specs.Histories.{configuration_after, is_terminated}
use Rattle.bp_machine.specs.Setups.{SetupOf}
use Rattle.bp_confirm.specs.declared.step_lines.Location.{Location}
use Rattle.bp_confirm.specs.declared.source_points.SourcePoint.{SourcePoint}
use Rattle.bp_confirm.specs.Steps.{is_at, Place, StepOf, place_of, next_place, StepLineOf, location_in, step_of}
use Rattle.bp_confirm.specs.declared.choices.Inferred.{Inferred}
use Rattle.bp_confirm.specs.InferredBits.{LastBits, bit_of_block, bit_of_stack, IsAmbiguous, IsAmbiguousOnStack, IsClear, IsClearOnStack, waiting_bits, some_follow}
use Rattle.bp_confirm.specs.declared.choices.LastBits as given
use Rattle.bp_confirm.specs.declared.choices.LastBits.TheVariants.{Each, Waiting}
use Rattle.bp_confirm.specs.declared.confirmations.StepError.{StepError}
use Rattle.bp_confirm.specs.declared.confirmations.StepError.TheVariants as error
use Rattle.bp_confirm.specs.declared.confirmations.StepReason.{StepReason}
use Rattle.bp_confirm.specs.declared.confirmations.StepRefusal.{StepRefusal}
use Rattle.bp_confirm.specs.declared.choices.Next.{Next}
use Rattle.bp_confirm.specs.declared.followed_steps.NotCalled.{NotCalled}
use Rattle.bp_confirm.specs.declared.followed_steps.NotCalled.TheVariants as call
use Rattle.bp_confirm.specs.Confirms.{thread_place_in, thread_place_of, GoesOnAt, IsStuck, IsReason, ForStuck}

-- A device: the inferred bit of an instruction.

-- a `?` decides its successor
abbrev pub is_fork : Instruction → Bool
is_fork (If None m e) = true
is_fork (While None m e) = true
is_fork i = false

-- a `?` decides the way of the next statement of a thread with this stack
abbrev pub is_fork_block : Block → Bool
is_fork_block (Then label at (Branches Choose a b) r) = true
is_fork_block (Then label at (Loops Choose a) r) = true
is_fork_block b = false

abbrev pub is_fork_on : List Frame → Bool
is_fork_on [] = false
is_fork_on (f ∷ fs) = is_fork_block f.left

-- the numbers of the instructions at the place of the thread's next step, if it takes one
abbrev pub NextNumbers : Type 0
NextNumbers = Option (ℕ → Bool)

-- the way from which the next step goes on, if there is one; without it that of the last bit
abbrev pub inferred_way : NextNumbers → (last : Bool) → (taken other : ℕ) → Inferred
inferred_way None last taken other = record { bit = last; is_clear = true }
inferred_way (Some there) last taken other =
    record {
      bit = there taken && not (there other);
      is_clear = taken == other || not (there taken && there other);
    }

abbrev pub inferred_bit : NextNumbers → (last follow : Bool) → Instruction → Inferred
inferred_bit next last follow (If None m e) = inferred_way next last m e
inferred_bit next last follow (While None m e) = inferred_way next last m e
inferred_bit next last follow (Assert None m) = record { bit = follow; is_clear = true }
inferred_bit next last follow (Assume None m) = record { bit = true; is_clear = true }
inferred_bit next last follow i = record { bit = false; is_clear = true }

-- A device: the place and the procedure of the statement of each instruction.

-- procedures have numbers from k on; each ends where no statement begins
abbrev pub points_from : List ℕ → ℕ → List (Option ℕ) → List SourcePoint
points_from text k [] = []
points_from text k (None ∷ starts) =
    record { position = None; procedure = k } ∷ points_from text (k + 1) starts
points_from text k (Some at ∷ starts) =
    record { position = Some (position_at text at); procedure = k } ∷ points_from text k starts

-- the points of the instructions of a program of this text
abbrev pub source_points_of : List ℕ → Program → List SourcePoint
source_points_of text t = points_from text 0 (starts_of t)

abbrev pub is_point_at : Location → Option SourcePoint → Bool
is_point_at x None = false
is_point_at x (Some point) = is_at x point.position

-- the instruction of this number is at the location
abbrev pub is_there : List SourcePoint → Location → ℕ → Bool
is_there points x n = is_point_at x (slice_get points n)

-- A device: the choice bit of a step, as later steps tell it.

-- the inferred bit of the next statement
abbrev pub IsInferred : Program → Block → Option Place → (last follow : Bool) → Inferred → Type 0
IsInferred t left next last follow x =
    (x.bit ≡ bit_of_block left next last follow)
    × MatchBool x.is_clear (IsClear left next) (IsAmbiguous t left next)

-- the inferred bit of the next statement of a thread with this stack
abbrev pub IsInferredOn : Program → LastBits → ℕ → List StepOf → List Frame → Inferred → Type 0
IsInferredOn t last i later stack x =
    (x.bit ≡ bit_of_stack last i later stack)
    × MatchBool x.is_clear (IsClearOnStack i later stack) (IsAmbiguousOnStack t i later stack)

-- A device: the last bits that are passed on.

abbrev pub last_bits : given.LastBits → LastBits
last_bits (Each bit) = λ i. bit
last_bits (Waiting waits) = waiting_bits (λ i. get_or waits.now i false)

-- A device: the refusal of one step after a history.

-- the step of line n is refused after the history h
pub record IsRefusedHere
    (text : List ℕ) (t : Program) (s : SetupOf) (h : List Call) (x : StepLineOf)
    (later : List StepOf) (n : ℕ) (r : StepRefusal)
    : Type 0 where
  pub line : r.line ≡ n
  pub thread : r.thread ≡ x.thread
  pub location : r.location ≡ x.location
  pub number : GoesOnAt t (configuration_after t s h) r.thread r.number
  pub thread_place : r.thread_place ≡ thread_place_of text t r.number
  pub reason : IsReason t s h (step_of text x) later r.reason
  pub stuck : ForStuck r.reason (IsStuck t s h (step_of text x))

-- the step is refused so, or memory is refused
abbrev pub IsNotTaken
    : List ℕ → Program → SetupOf → List Call → StepLineOf → List StepOf → ℕ → StepError → Type 0
IsNotTaken text t s h x later n (error.Refusal r) = IsRefusedHere text t s h x later n r
IsNotTaken text t s h x later n error.Memory = Unit {0}

-- the session makes no attempt of thread i: it has made its last one, or memory is refused
abbrev pub IsNotCalled : SetupOf → List Call → ℕ → NotCalled → Type 0
IsNotCalled s h i call.Finished = is_terminated s h i ≡ true
IsNotCalled s h i call.Memory = Unit {0}

-- the refusal of the step of this line, the n-th
abbrev pub refusal_of : List SourcePoint → StepLineOf → ℕ → Option ℕ → StepReason → StepError
refusal_of points x n number reason = error.Refusal (record {
  line = n;
  thread = x.thread;
  location = x.location;
  number = number;
  thread_place = thread_place_in points number;
  reason = reason;
})

-- the later steps, which are among these lines, tell this of the step x in a text, and of the last
-- bit of its thread
pub record TellsNext
    (text : List ℕ) (last : LastBits) (x : StepOf) (later : List StepOf) (lines : List StepLineOf)
    (next : Next)
    : Type 0 where
  pub place : next_place x.thread later ≡ option_map (place_of text) (location_in lines next.number)
  pub follows : some_follow later ≡ next.follows
  pub last_is : last x.thread ≡ next.last
