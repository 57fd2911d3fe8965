-- Sessions as contracts see them, and the state of their threads.
use Rattle.std.specs.Prelude.{if◌then◌else◌, ◌≡◌, ℕ, ◌+◌, ◌==◌, List, [], ◌∷◌, Option, None, Some, Bool, false, map, option_map, unwrap_or, length, slice_get, ◌<◌, ◌≤◌, ◌++◌, true, is_some, IfOk, MatchResult, OnErr, Result}
use Rattle.bp_syntax.specs.Ast.{Program}
use Rattle.bp_flat.specs.Flat.{Flat, heading_named}
use Rattle.bp_flat.specs.Moves.{Configuration, Frame, is_call}
use Rattle.bp_flat.specs.InstrEffects.{bits_of}
use Rattle.bp_flat.specs.Steps.{Activation}
use Rattle.bp_flat.specs.StandsFor.{valuation_of, ShowsStack}
use Rattle.bp_machine.specs.declared.contexts.ContextCount.{ContextCount}
use Rattle.bp_machine.specs.Histories.{IsLeastWithin, stack_of, configuration_after, granted_threads, calls_of_thread, ends_with_last, IsLegal, outcome_of, is_failure, ChoicesOf, IsAt, HasSeededBits, IsBitOfCall, Answers, is_terminated, IsAllowed}
use Rattle.bp_machine.specs.declared.stacks.ActivationRecord.{ActivationRecord}
use Rattle.bp_machine.specs.declared.calls.Call.{Call}
use Rattle.bp_machine.specs.declared.calls.Outcome.{Outcome}
use Rattle.bp_machine.specs.Setups.{SetupOf, threads, IsInRange}
use Rattle.bp_machine.specs.declared.calls.Reply.TheVariants.{Stepped}
use Rattle.bp_machine.specs.declared.calls.AskError.{AskError}
use Rattle.bp_machine.specs.declared.calls.AskError.TheVariants.{NoThread, Terminated, Seeded, Unseeded, Memory, Busy}

-- Counting contexts step by step: the contexts of the steps so far, and the last step's thread.

-- the last of the threads
abbrev pub last_thread : List ℕ → Option ℕ
last_thread [] = None
last_thread (t ∷ []) = Some t
last_thread (t ∷ u ∷ ts) = last_thread (u ∷ ts)

-- the number of contexts that a step of thread i opens after one of thread l
abbrev pub contexts_opened : Option ℕ → ℕ → ℕ
contexts_opened None i = 1
contexts_opened (Some l) i = if l == i then 0 else 1

-- the number of contexts used with one more step of thread i
abbrev pub used_with : ContextCount → ℕ → ℕ
used_with k i = k.used + contexts_opened k.last i

abbrev pub count_with : ContextCount → ℕ → ContextCount
count_with k i = record { used = used_with k i; last = Some i }

-- the count is that of steps of these threads
pub record IsCountOf (k : ContextCount) (threads : List ℕ) : Type 0 where
  pub used : IsLeastWithin k.used threads
  pub last : k.last ≡ last_thread threads

-- A guest thread as a session keeps it.

-- its stack, the topmost record first; the attempts that it made; whether the last of them had a
-- last reply
pub record GuestThreadOf : Type 0 where
  pub stack : List ActivationRecord
  pub calls : ℕ
  pub ended : Bool

-- a thread, and the number of further frames for which its stack has room
pub record KeptThread : Type 0 where
  pub guest : GuestThreadOf
  pub room : ℕ

abbrev pub guests : List KeptThread → List GuestThreadOf
guests ks = map (λ k. k.guest) ks

abbrev pub rooms : List KeptThread → List ℕ
rooms ks = map (λ k. k.room) ks

-- a thread that begins at this instruction
abbrev pub thread_at : ℕ → GuestThreadOf
thread_at number = record {
  stack = record { number = number; locals = 0 } ∷ [];
  calls = 0;
  ended = false;
}

-- a thread that begins with the procedure of this name
abbrev pub first_thread : Flat → List ℕ → GuestThreadOf
first_thread c name =
    thread_at (unwrap_or (option_map (λ h. h.entry) (heading_named c.headings name)) 0)

-- Stacks of frames, the topmost first.

-- a stack, and the number of further frames for which it has room
pub record StackOf : Type 0 where
  pub frames : List ActivationRecord
  pub room : ℕ

abbrev pub top_of : List ActivationRecord → Option ActivationRecord
top_of [] = None
top_of (f ∷ fs) = Some f

abbrev pub with_top : ActivationRecord → List ActivationRecord → List ActivationRecord
with_top f [] = []
with_top f (g ∷ fs) = f ∷ fs

abbrev pub entered_top : ActivationRecord → ℕ → List ActivationRecord → List ActivationRecord
entered_top f next [] = []
entered_top f next (g ∷ fs) = f ∷ record { number = next; locals = g.locals } ∷ fs

-- A session's state of its threads, and when it stands for the configuration after a history.

-- the globals are a word, a bit for each slot
pub record State : Type 0 where
  pub globals : ℕ
  pub threads : List GuestThreadOf
  pub contexts : ContextCount
  pub outcome : Outcome

-- a machine: its state, and the number of further frames for which each thread's stack has room
pub record MachineOf : Type 0 where
  pub state : State
  pub rooms : List ℕ

abbrev pub activation_of : ActivationRecord → Activation
activation_of f = record { number = f.number; locals = bits_of f.locals }

abbrev pub activations : List ActivationRecord → List Activation
activations fs = map activation_of fs

-- this is thread i after the history, in the configuration c
pub record ShowsThread
    (t : Program) (c : Configuration) (h : List Call) (i : ℕ) (guest : GuestThreadOf) : Type 0 where
  pub stack : ShowsStack t (activations guest.stack) (stack_of c i)
  pub calls : guest.calls ≡ length (calls_of_thread i h)
  pub ended : guest.ended ≡ ends_with_last (calls_of_thread i h)

-- the state is that of the machine after the legal history h
pub record StandsAfter (t : Program) (s : SetupOf) (x : State) (h : List Call) : Type 0 where
  pub legal : IsLegal t s h
  pub globals : (configuration_after t s h).globals ≡ valuation_of t.globals (bits_of x.globals)
  pub failed : (configuration_after t s h).failed ≡ is_failure x.outcome
  pub outcome : x.outcome ≡ outcome_of h
  pub stacks : length (configuration_after t s h).stacks ≡ threads s
  pub thread_count : length x.threads ≡ threads s
  pub thread : (i : ℕ) (guest : GuestThreadOf)
      → slice_get x.threads i ≡ Some guest
      → ShowsThread t (configuration_after t s h) h i guest
  pub contexts : IsCountOf x.contexts (granted_threads h)

-- Sessions as contracts see them.

-- a session without memory: its machine, and the choices of each thread if the setup has a seed
pub record SessionOf : Type 0 where
  pub code : Flat
  pub setup : SetupOf
  pub machine : MachineOf
  pub choices : List ChoicesOf

-- The session stands after the history h of the program t. If the setup has a seed, the history has
-- its bits, and the choices of each thread are before the bit of its next attempt.
pub record Stands (t : Program) (x : SessionOf) (h : List Call) : Type 0 where
  pub state : StandsAfter t x.setup x.machine.state h
  pub seeded : HasSeededBits x.setup h
  pub choices : (seed i : ℕ) (c : ChoicesOf)
      → x.setup.seed ≡ Some seed
      → slice_get x.choices i ≡ Some c
      → IsAt c seed i (length (calls_of_thread i h))

-- P holds in the session's program of each history after which the session stands
abbrev pub AfterEach : SessionOf → (Program → List Call → Type 0) → Type 0
AfterEach x P = (h : List Call) → Stands x.code.tree x h → P x.code.tree h

-- the number of threads with choices: all of them if the setup has a seed, else none
abbrev pub choices_of : SetupOf → ℕ
choices_of s = if is_some s.seed then threads s else 0

-- the session stands after some legal history of its program
pub record IsInOrder (x : SessionOf) : Type 0 where
  pub range : IsInRange x.setup
  pub thread_count : length x.machine.state.threads ≡ threads x.setup
  pub choice_count : length x.choices ≡ choices_of x.setup
  pub stands : ∥ ((h : List Call) × Stands x.code.tree x h) ∥₁

-- the machine would grant the next step of thread i, which is a call
pub record IsCallStep (t : Program) (s : SetupOf) (h : List Call) (i : ℕ) (bit : Bool)
    : Type 0 where
  pub frame : Frame
  pub below : List Frame
  pub stack : stack_of (configuration_after t s h) i ≡ frame ∷ below
  pub calls : is_call frame.left ≡ true
  pub steps : Answers t s.contexts (configuration_after t s h) (granted_threads h) i bit Stepped

-- the next attempt of thread i after the history h with this given bit, or none: it may follow h,
-- and has the required bit
pub record IsNextCall
    (t : Program) (s : SetupOf) (h : List Call) (i : ℕ) (given : Option Bool) (x : Call)
    : Type 0 where
  pub thread : x.thread ≡ i
  pub bit : IsBitOfCall s h i given x.bit
  pub allowed : IsAllowed t s h x

-- the bit given for a recorded attempt: none if the setup has a seed, else that of the record
abbrev pub given_bit : SetupOf → Bool → Option Bool
given_bit s bit = if is_some s.seed then None else Some bit

-- thread i exists, and is live
abbrev pub IsLiveThread : SetupOf → List Call → ℕ → Type 0
IsLiveThread s h i = (i < threads s) × (is_terminated s h i ≡ false)

-- Why an attempt of thread i is refused after the history h with this given bit, or none: there is
-- no such thread; else it has terminated; else a bit was given although the setup has a
-- seed, or none although it has none. Memory may be refused only if its step is a call.
module _ (t : Program) (s : SetupOf) (h : List Call) (i : ℕ) (given : Option Bool) where
  abbrev pub IsAskRefusal : AskError → Type 0
  IsAskRefusal NoThread = threads s ≤ i
  IsAskRefusal Terminated = (i < threads s) × (is_terminated s h i ≡ true)
  IsAskRefusal Seeded =
      IsLiveThread s h i × (is_some given ≡ true) × (is_some s.seed ≡ true)
  IsAskRefusal Unseeded = IsLiveThread s h i × (given ≡ None) × (s.seed ≡ None)
  IsAskRefusal Memory =
      IsLiveThread s h i
      × ((bit : Bool) × IsBitOfCall s h i given bit × IsCallStep t s h i bit)
  IsAskRefusal Busy = ⊥

-- the bit is the given one, if any
abbrev pub IsGiven : Option Bool → Bool → Type 0
IsGiven (Some given) bit = bit ≡ given
IsGiven None bit = Unit {0}

-- The session `old` was asked for the next attempt of thread i, with this given bit or none, and is
-- `new` now. After each history it answers with the attempt, after which it stands, or says why it
-- refuses, and is then unchanged.
pub record IsAnswer
    (old : SessionOf) (i : ℕ) (given : Option Bool) (new : SessionOf)
    (result : Result Call AskError)
    : Type 0 where
  pub answer : AfterEach old (λ t h. MatchResult result
      (IsNextCall t old.setup h i given)
      (IsAskRefusal t old.setup h i given))
  pub asked : IfOk result (λ x. (x.thread ≡ i) × IsGiven given x.bit)
  pub stands : AfterEach old (λ t h. IfOk result (λ x. Stands t new (h ++ x ∷ [])))
  pub kept : (new.code ≡ old.code) × (new.setup ≡ old.setup)
  pub same : OnErr result (new ≡ old)

-- Why a look at the next values that thread i prints is refused: there is no such thread. Memory
-- may be refused only if it prints some.
abbrev pub IsPrintRefusal : SetupOf → ℕ → Option (List Bool) → AskError → Type 0
IsPrintRefusal s i printed NoThread = threads s ≤ i
IsPrintRefusal s i printed Memory = (i < threads s) × (is_some printed ≡ true)
IsPrintRefusal s i printed f = ⊥
