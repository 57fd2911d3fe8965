-- The result of an attempt of a thread in a session, and the state after it: how a session works,
-- which no public clause names.
use Rattle.std.specs.Prelude.{if◌then◌else◌, ◌≡◌, ℕ, ◌+◌, ◌<◌, ◌^◌, Bool, true, false, ◌||◌, nat_le, List, [], ◌∷◌, Option, None, Some, length, slice_get, slice_set, ◌≢◌}
use Rattle.bp_flat.specs.Flat.{Instruction, Flat}
use Rattle.bp_flat.specs.InstrEffects.{store_of, effect_of}
use Rattle.bp_flat.specs.declared.stores.Store.{Store}
use Rattle.bp_flat.specs.declared.effects.Effect.{Effect}
use Rattle.bp_flat.specs.declared.effects.Effect.TheVariants.{Continues, Enters, Returns}
use Rattle.bp_flat.specs.declared.effects.Effect.TheVariants as instr
use Rattle.bp_flat.specs.Steps.{Activation, instruction_effect}
use Rattle.bp_machine.specs.declared.calls.Reply.{Reply}
use Rattle.bp_machine.specs.declared.calls.Reply.TheVariants.{Stopped, Ended, NoContexts, Full, Blocked, Stepped}
use Rattle.bp_machine.specs.declared.calls.Reply.TheVariants as reply
use Rattle.bp_machine.specs.declared.calls.Outcome.TheVariants.{Failed}
use Rattle.bp_machine.specs.declared.stacks.ActivationRecord.{ActivationRecord}
use Rattle.bp_machine.specs.declared.threads.Transition.{Transition}
use Rattle.bp_machine.specs.declared.threads.Transition.TheVariants.{Stays, Fails, Steps}
use Rattle.bp_machine.specs.declared.limits.TheConstants.{MAX_FRAMES}
use Rattle.bp_machine.specs.Histories.{is_last, is_failure, ChoicesOf, IsAt, next_bit}
use Rattle.bp_machine.specs.Sessions.{used_with, count_with, GuestThreadOf, State, MachineOf, SessionOf, choices_of}
use Rattle.bp_machine.specs.Setups.{SetupOf}
use Rattle.bp_machine.specs.declared.calls.AskError.{AskError}
use Rattle.bp_machine.specs.declared.calls.AskError.TheVariants.{NoThread, Terminated, Seeded, Unseeded, Memory, Busy}
use Rattle.bp_machine.specs.declared.sessions.Judged.{Judged}

-- the store that the topmost record sees: the globals, and its locals
abbrev pub store_at : ℕ → ActivationRecord → Store
store_at globals f = record { globals = globals; locals = f.locals }

-- the effect is that of the instruction if it sees this store
pub record IsEffectOf (i : Instruction) (s : Store) (bit : Bool) (d : Effect) : Type 0 where
  pub each : (below : List Activation)
      → effect_of s d below ≡ instruction_effect i (store_of s) below bit

-- the transition for an effect on a stack that is full or not
abbrev pub transition_of : Effect → Bool → Transition
transition_of (Enters c m locals) full = if full then Stays Full else Steps (Enters c m locals)
transition_of instr.Fails full = Fails
transition_of instr.Blocks full = Stays Blocked
transition_of d full = Steps d

module _ (code : List Instruction) (g : ℕ) (bit : Bool) where
  -- the transition at the next instruction of the topmost record
  abbrev pub IsTransitionAt : Option Instruction → ActivationRecord → Bool → Transition → Type 0
  IsTransitionAt None f full v = v ≡ Stays Ended
  IsTransitionAt (Some i) f full v =
      (d : Effect) × IsEffectOf i (store_at g f) bit d × (v ≡ transition_of d full)

  -- the transition on a stack, whether one more step fits within the contexts or not
  abbrev pub IsTransitionOn : Bool → List ActivationRecord → Transition → Type 0
  IsTransitionOn fits [] v = v ≡ Stays Ended
  IsTransitionOn true (f ∷ fs) v =
      IsTransitionAt (slice_get code f.number) f (nat_le MAX_FRAMES (length (f ∷ fs))) v
  IsTransitionOn false (f ∷ fs) v = v ≡ Stays NoContexts

  -- the transition if an assertion failed earlier or not
  abbrev pub IsTransitionUnless : Bool → Bool → List ActivationRecord → Transition → Type 0
  IsTransitionUnless true fits stack v = v ≡ Stays Stopped
  IsTransitionUnless false fits stack v = IsTransitionOn fits stack v

-- the transition for an attempt of this thread, thread i, if this number of contexts is allowed
abbrev pub IsTransition :
    List Instruction → State → ℕ → ℕ → GuestThreadOf → Bool → Transition → Type 0
IsTransition code x most i guest bit v =
    let fits = nat_le (used_with x.contexts i) most in
    IsTransitionUnless code x.globals bit (is_failure x.outcome) fits guest.stack v

abbrev pub reply_of_transition : Transition → Reply
reply_of_transition (Stays r) = r
reply_of_transition Fails = reply.Failed
reply_of_transition (Steps d) = Stepped

-- the stack after a step
abbrev pub stack_after : Effect → List ActivationRecord → List ActivationRecord
stack_after d [] = []
stack_after (Continues m w) (f ∷ fs) = record { number = m; locals = w.locals } ∷ fs
stack_after Returns (f ∷ fs) = fs
stack_after (Enters c m locals) (f ∷ fs) =
    record { number = c; locals = locals } ∷ record { number = m; locals = f.locals } ∷ fs
stack_after d (f ∷ fs) = f ∷ fs

abbrev pub stack_after_transition : Transition → List ActivationRecord → List ActivationRecord
stack_after_transition (Steps d) fs = stack_after d fs
stack_after_transition v fs = fs

-- the thread after an attempt
abbrev pub thread_after : GuestThreadOf → Transition → GuestThreadOf
thread_after guest v = record {
  stack = stack_after_transition v guest.stack;
  calls = guest.calls + 1;
  ended = is_last (reply_of_transition v);
}

abbrev pub globals_after : ℕ → Transition → ℕ
globals_after g (Steps (Continues m w)) = w.globals
globals_after g v = g

-- the state after an attempt of thread i
abbrev pub state_after : State → ℕ → GuestThreadOf → Transition → State
state_after x i guest (Stays r) =
    record x { threads = slice_set x.threads i (thread_after guest (Stays r)) }
state_after x i guest Fails = record {
  globals = x.globals;
  threads = slice_set x.threads i (thread_after guest Fails);
  contexts = count_with x.contexts i;
  outcome = Failed i;
}
state_after x i guest (Steps d) = record {
  globals = globals_after x.globals (Steps d);
  threads = slice_set x.threads i (thread_after guest (Steps d));
  contexts = count_with x.contexts i;
  outcome = x.outcome;
}

-- the number of contexts does not overflow with one more
abbrev pub MayGrow : State → ℕ → Transition → Type 0
MayGrow x i (Stays r) = Unit {0}
MayGrow x i v = used_with x.contexts i < 2 ^ 32

-- the thread makes no more attempts
abbrev pub is_over : SetupOf → GuestThreadOf → Bool
is_over s guest = guest.ended || nat_le s.calls guest.calls

-- the transition for an attempt of thread i, which exists and may make it
pub record IsNextTransition
    (code : List Instruction) (s : SetupOf) (x : State) (i : ℕ) (bit : Bool) (v : Transition)
    : Type 0 where
  pub guest : GuestThreadOf
  pub has : slice_get x.threads i ≡ Some guest
  pub goes_on : is_over s guest ≡ false
  pub is : IsTransition code x s.contexts i guest bit v

-- the thread exists, and may make a further attempt
pub record GoesOn (s : SetupOf) (x : State) (i : ℕ) : Type 0 where
  pub guest : GuestThreadOf
  pub has : slice_get x.threads i ≡ Some guest
  pub goes_on : is_over s guest ≡ false

-- the thread exists, and makes no more attempts
pub record IsOver (s : SetupOf) (x : State) (i : ℕ) : Type 0 where
  pub guest : GuestThreadOf
  pub has : slice_get x.threads i ≡ Some guest
  pub over : is_over s guest ≡ true

-- the stack has room for the frame that the effect pushes
abbrev pub FitsIn : ℕ → Effect → Type 0
FitsIn room (Enters c m locals) = 0 < room
FitsIn room d = Unit {0}

-- the stack has room for the frame that the transition pushes
abbrev pub TransitionFitsIn : ℕ → Transition → Type 0
TransitionFitsIn room (Steps d) = FitsIn room d
TransitionFitsIn room v = Unit {0}

-- thread i has room for the transition
abbrev pub HasRoom : List ℕ → ℕ → Transition → Type 0
HasRoom rooms i v =
    (room : ℕ) → slice_get rooms i ≡ Some room → TransitionFitsIn room v

-- the effect is that of a call
abbrev pub IsEntering : Effect → Type 0
IsEntering (Enters c m locals) = Unit {0}
IsEntering d = ⊥

-- the transition is the step of a call
abbrev pub IsCallTransition : Transition → Type 0
IsCallTransition (Steps d) = IsEntering d
IsCallTransition v = ⊥

-- How a session makes its attempts, which no public clause names: how it judges one, and how its
-- choices are drawn.

abbrev pub session_of : Flat → SetupOf → MachineOf → List ChoicesOf → SessionOf
session_of code setup machine choices = record {
  code = code;
  setup = setup;
  machine = machine;
  choices = choices;
}

-- the choices of a setup's threads, before any is drawn
pub record AreFirstChoices (s : SetupOf) (choices : List ChoicesOf) : Type 0 where
  pub count : length choices ≡ choices_of s
  pub each : (seed i : ℕ) (c : ChoicesOf)
      → s.seed ≡ Some seed
      → slice_get choices i ≡ Some c
      → IsAt c seed i 0

-- the next bit of thread i is drawn, if it has choices
pub record AreDrawn (i : ℕ) (old new : List ChoicesOf) : Type 0 where
  pub count : length new ≡ length old
  pub own : (c d : ChoicesOf) (seed thread n : ℕ)
      → slice_get old i ≡ Some c
      → slice_get new i ≡ Some d
      → IsAt c seed thread n
      → IsAt d seed thread (n + 1)
  pub others : (j : ℕ) → j ≢ i → slice_get new j ≡ slice_get old j

-- the bit of the next attempt of thread i, with this given bit or none
abbrev pub IsKeptBit : List ChoicesOf → ℕ → Option Bool → Bool → Type 0
IsKeptBit choices i (Some given) bit = (slice_get choices i ≡ None) × (bit ≡ given)
IsKeptBit choices i None bit =
    (c : ChoicesOf) × (slice_get choices i ≡ Some c) × (bit ≡ next_bit c)

-- a bit was given although thread i has choices, or none although it has none
abbrev pub IsBitRefusal : List ChoicesOf → ℕ → Option Bool → AskError → Type 0
IsBitRefusal choices i given Seeded =
    ((c : ChoicesOf) × (slice_get choices i ≡ Some c)) × ((bit : Bool) × (given ≡ Some bit))
IsBitRefusal choices i given Unseeded = (slice_get choices i ≡ None) × (given ≡ None)
IsBitRefusal choices i given f = ⊥

-- the transition for an attempt of thread i, with this given bit or none
pub record IsJudged (x : SessionOf) (i : ℕ) (given : Option Bool) (p : Judged) : Type 0 where
  pub thread : p.call.thread ≡ i
  pub bit : IsKeptBit x.choices i given p.call.bit
  pub transition :
      IsNextTransition x.code.instructions x.setup x.machine.state i p.call.bit p.transition
  pub reply : p.call.reply ≡ reply_of_transition p.transition

-- why an attempt of thread i is refused before memory is allocated
abbrev pub IsKeptRefusal : SessionOf → ℕ → Option Bool → AskError → Type 0
IsKeptRefusal x i given NoThread = slice_get x.machine.state.threads i ≡ None
IsKeptRefusal x i given Terminated = IsOver x.setup x.machine.state i
IsKeptRefusal x i given Memory = ⊥
IsKeptRefusal x i given Busy = ⊥
IsKeptRefusal x i given f =
    GoesOn x.setup x.machine.state i × IsBitRefusal x.choices i given f
