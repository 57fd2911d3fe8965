-- Runs of a program: their bounds, where threads continue and wait, deadlocks, and printed values.
use Rattle.std.specs.Prelude.{◌≡◌, ℕ, List, ◌∷◌, length, Bool, true, false, ◌&&◌, Option, Some, [], if◌then◌else◌, ◌++◌, None, option_map, ◌<◌, ◌≤◌, map}
use Rattle.std.specs.Option.{option_to_list}
use Rattle.bp_syntax.specs.Ast.{Program, Block, Then, Prints}
use Rattle.bp_flat.specs.InstrEffects.{bits_of}
use Rattle.bp_flat.specs.Moves.{Frame, Configuration, Store, Valuation, expression_values, frame_store, is_call}
use Rattle.bp_flat.specs.StandsFor.{Remains, places_of, valuation_of, variables}
use Rattle.bp_machine.specs.declared.tops.Top.{Top}
use Rattle.bp_machine.specs.Histories.{stack_of, reply_on_stack, is_granted, configuration_after_call, IsWithin, configuration_after, granted_calls, calls_of_thread, IsLegal, IsRun}
use Rattle.bp_machine.specs.declared.calls.Reply.{Reply}
use Rattle.bp_machine.specs.declared.calls.Reply.TheVariants.{Blocked, Failed, Stepped}
use Rattle.bp_machine.specs.declared.calls.Call.{Call}
use Rattle.bp_machine.specs.Setups.{SetupOf, start}
use Rattle.bp_machine.specs.declared.limits.TheConstants.{MAX_FRAMES}

-- Where a thread continues: at the top of its stack, and after its calls have returned.

-- a stack of these frames continues at this instruction, with these globals, locals and number of
-- frames
pub record IsTopOf (t : Program) (c : Configuration) (frames : List Frame) (x : Top) : Type 0 where
  pub frame : Frame
  pub below : List Frame
  pub stack : frames ≡ frame ∷ below
  pub next : Remains (places_of t.procedures) x.number frame.procedure frame.left
  pub globals : c.globals ≡ valuation_of t.globals (bits_of x.store.globals)
  pub locals : frame.locals ≡ valuation_of (variables frame.procedure) (bits_of x.store.locals)
  pub depth : x.depth ≡ length (frame ∷ below)

-- thread i continues there
abbrev pub IsTop : Program → Configuration → ℕ → Top → Type 0
IsTop t c i x = IsTopOf t c (stack_of c i) x

-- Threads that wait.

-- the reply to an assumption of 0
abbrev pub is_blocked : Option Reply → Bool
is_blocked (Some Blocked) = true
is_blocked r = false

-- with this choice bit the next statement of thread i is an assumption of 0
abbrev pub finds_zero : Program → Configuration → ℕ → Bool → Bool
finds_zero t c i bit = is_blocked (reply_on_stack t true c.globals (stack_of c i) bit)

-- with either choice bit it is one
abbrev pub waits : Program → Configuration → ℕ → Bool
waits t c i = finds_zero t c i false && finds_zero t c i true

-- Deadlocks.

abbrev pub is_left : List Frame → Bool
is_left [] = false
is_left (f ∷ fs) = true

-- thread i has frames left: it did not reach the end of its program
abbrev pub has_frames : Configuration → ℕ → Bool
has_frames c i = is_left (stack_of c i)

-- Some thread has frames left, and each thread that has frames left waits. Contexts and attempts do
-- not matter: a thread that was refused a context, or made all its attempts, waits if it is at an
-- assumption of 0, and could step otherwise.
pub record IsDeadlocked (t : Program) (c : Configuration) : Type 0 where
  pub thread : ℕ
  pub unended : has_frames c thread ≡ true
  pub each_waits : (i : ℕ) → has_frames c i ≡ true → waits t c i ≡ true

-- The values that the granted steps of a history print.

-- a thread, and the values that it prints
pub record PrintedRow : Type 0 where
  pub thread : ℕ
  pub values : List Bool

-- the values of the next statement, if it is a print
abbrev pub values_at : Store Valuation → Block → Option (List Bool)
values_at store (Then label at (Prints es) r) = Some (expression_values store es)
values_at store left = None

-- the values that the next step of a stack prints
abbrev pub values_printed : Valuation → List Frame → Option (List Bool)
values_printed g [] = None
values_printed g (f ∷ fs) = values_at (frame_store g f) f.left

-- the rows that an attempt prints in this configuration: one if its step is granted and a print
abbrev pub rows_of_call : Configuration → Call → List PrintedRow
rows_of_call c x =
    let printed = values_printed c.globals (stack_of c x.thread) in
    let row = option_map (λ vs. record { thread = x.thread; values = vs }) printed in
    if is_granted x.reply then option_to_list row else []

abbrev pub rows_after : Program → Configuration → List Call → List PrintedRow
rows_after t c [] = []
rows_after t c (x ∷ xs) =
    rows_of_call c x ++ rows_after t (configuration_after_call t c x.thread x.bit x.reply) xs

-- the rows of a history, with the values before each step
abbrev pub printed_rows : Program → SetupOf → List Call → List PrintedRow
printed_rows t s h = rows_after t (start t s) h

-- Runs of a program within the bounds of a setup, without the machine, such as another tool's
-- counterexample; and the history of such a run.

-- if the next step of thread i is a call, its stack has room for one more frame
abbrev pub HasRoom : Configuration → ℕ → Type 0
HasRoom c i =
    (frame : Frame) (below : List Frame)
    → stack_of c i ≡ frame ∷ below
    → is_call frame.left ≡ true
    → length (frame ∷ below) < MAX_FRAMES

-- each of the steps from c on has such room after the steps before it
abbrev pub EachHasRoom : Program → Configuration → List Call → Type 0
EachHasRoom t c steps =
    (before : List Call) (x : Call) (later : List Call) (d : Configuration)
    → steps ≡ before ++ x ∷ later
    → IsRun t c before d
    → HasRoom d x.thread

-- The steps are moves, one after the other, from the start of the setup to d. They are within its
-- contexts, no thread makes more steps than it may make attempts, and the stacks have room.
pub record IsBoundedRun (t : Program) (s : SetupOf) (steps : List Call) (d : Configuration)
    : Type 0 where
  pub run : IsRun t (start t s) steps d
  pub contexts : IsWithin s.contexts (map (λ x. x.thread) steps)
  pub calls : (i : ℕ) → length (calls_of_thread i steps) ≤ s.calls
  pub room : EachHasRoom t (start t s) steps

-- the reply to a step before these others, in a run that ends at a failed assertion or not
abbrev pub reply_of_step : List Call → Bool → Reply
reply_of_step [] true = Failed
reply_of_step later failed = Stepped

-- the threads and bits of a run's steps, with their replies: at a failed assertion the last has
-- Failed, and each other one has Stepped
abbrev pub history_of_run : List Call → Bool → List Call
history_of_run [] failed = []
history_of_run (x ∷ xs) failed =
    record x { reply = reply_of_step xs failed } ∷ history_of_run xs failed

-- the history is legal, has only granted attempts, and leads to d
pub record IsHistoryOfSteps (t : Program) (s : SetupOf) (h : List Call) (d : Configuration)
    : Type 0 where
  pub legal : IsLegal t s h
  pub granted : granted_calls h ≡ h
  pub leads : configuration_after t s h ≡ d

-- the granted attempts of the history are a bounded run, with the replies of one
pub record HasBoundedRun (t : Program) (s : SetupOf) (h : List Call) : Type 0 where
  pub run : IsBoundedRun t s (granted_calls h) (configuration_after t s h)
  pub replies :
      history_of_run (granted_calls h) (configuration_after t s h).failed ≡ granted_calls h
