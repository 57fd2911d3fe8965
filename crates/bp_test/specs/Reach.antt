-- The places of a program that a history reaches, the threads that step in it, and marks of both.
use Rattle.std.specs.Prelude.{◌≡◌, ◌⊎◌, ◌<◌, ℕ, suc, Bool, true, false, if◌then◌else◌, nat_le, count_by, List, [], ◌∷◌, Option, None, Some, length, take, slice_get, slice_index_or, slice_set, MatchOption, ◌+◌, ◌*◌, ◌%◌, ◌^◌, bit_xor, ◌++◌, unwrap_or, zero, All, map}
use Rattle.bp_syntax.specs.Ast.{Program}
use Rattle.bp_flat.specs.Moves.{Frame, Configuration}
use Rattle.bp_flat.specs.StandsFor.{Place, place, places_of}
use Rattle.bp_machine.specs.declared.calls.Call.{Call}
use Rattle.bp_machine.specs.declared.calls.Reply.{Reply}
use Rattle.bp_machine.specs.declared.calls.Reply.TheVariants.{NoContexts}
use Rattle.bp_machine.specs.Histories.{stack_of, configuration_after, is_granted}
use Rattle.bp_machine.specs.Setups.{SetupOf, threads}
use Rattle.bp_machine.specs.Runs.{waits}
use Rattle.bp_machine.specs.Sessions.{SessionOf, AfterEach}
use Rattle.bp_test.specs.declared.runs.TheConstants.{FACTOR, FIRST_KEY, NOWHERE}
use Rattle.bp_test.specs.declared.waits.Waiting.{Waiting}

-- the thread was refused a context
abbrev pub refuses_context : Reply → Bool
refuses_context NoContexts = true
refuses_context r = false

-- in the history a thread was refused a context
abbrev pub has_refusal : List Call → Bool
has_refusal h = nat_le 1 (count_by (λ x. refuses_context x.reply) h)

-- the place at which a stack continues
abbrev pub place_on : List Frame → Option Place
place_on [] = None
place_on (f ∷ fs) = Some (place f.procedure f.left)

-- the place at which thread i continues
abbrev pub next_place : Configuration → ℕ → Option Place
next_place c i = place_on (stack_of c i)

-- in the history a thread tried the step of this place, and was not refused a context for it
pub record IsTried (t : Program) (s : SetupOf) (h : List Call) (x : Place) : Type 0 where
  pub before : ℕ
  pub call : Call
  pub has : slice_get h before ≡ Some call
  pub tried : refuses_context call.reply ≡ false
  pub next : next_place (configuration_after t s (take before h)) call.thread ≡ Some x

-- after the history thread i waits at this place, whether it may make more attempts or not
pub record IsWaiting (t : Program) (s : SetupOf) (h : List Call) (i : ℕ) (x : Place)
    : Type 0 where
  pub within : i < threads s
  pub has_to_wait : waits t (configuration_after t s h) i ≡ true
  pub next : next_place (configuration_after t s h) i ≡ Some x

-- an attempt of the history led its thread to this place, and it had to wait there
pub record IsWaitedAt (t : Program) (s : SetupOf) (h : List Call) (x : Place) : Type 0 where
  pub before : ℕ
  pub call : Call
  pub has : slice_get h before ≡ Some call
  pub waiting : IsWaiting t s (take (suc before) h) call.thread x

abbrev pub IsReachedByCall : Program → SetupOf → List Call → Place → Type 0
IsReachedByCall t s h x = IsTried t s h x ⊎ IsWaitedAt t s h x

-- an attempt reached this place, or a thread waits at it before the first attempt or after the last
abbrev pub Reaches : Program → SetupOf → List Call → Place → Type 0
Reaches t s h x =
    IsReachedByCall t s h x
    ⊎ ((i : ℕ) × (IsWaiting t s [] i x ⊎ IsWaiting t s h i x))

-- thread i made a step in the history
pub record HasStep (h : List Call) (i : ℕ) : Type 0 where
  pub number : ℕ
  pub call : Call
  pub has : slice_get h number ≡ Some call
  pub granted : is_granted call.reply ≡ true
  pub thread : call.thread ≡ i

abbrev pub is_marked : List Bool → ℕ → Bool
is_marked marks n = slice_index_or marks n false

-- `count` marks, set for the things with the property P. Mark n is that of the thing at n.
pub record AreMarks
    {X : Type 0} (at : ℕ → Option X) (P : X → Type 0) (count : ℕ) (marks : List Bool)
    : Type 0 where
  pub size : length marks ≡ count
  pub only : (n : ℕ) → is_marked marks n ≡ true → (x : X) × (at n ≡ Some x) × P x
  pub all : (x : X) → P x
      → (n : ℕ) × (at n ≡ Some x) × (n < count → is_marked marks n ≡ true)

-- a mark for each instruction of the program's code: that of its place
abbrev pub place_of : Program → ℕ → Option Place
place_of t n = slice_get (places_of t.procedures) n

-- The rest are devices of the proofs.

-- the old marks, and those of things with the property P, are set
pub record MarksGrow
    {X : Type 0} (at : ℕ → Option X) (P : X → Type 0) (old new : List Bool) : Type 0 where
  pub size : length new ≡ length old
  pub kept : (n : ℕ) → is_marked old n ≡ true → is_marked new n ≡ true
  pub only : (n : ℕ) → is_marked new n ≡ true
      → (is_marked old n ≡ true) ⊎ ((x : X) × (at n ≡ Some x) × P x)
  pub all : (x : X) → P x
      → (n : ℕ) × (at n ≡ Some x) × (n < length new → is_marked new n ≡ true)

-- the number of the instruction at this place, if there is one
abbrev pub IsNumberOf : Program → Option Place → Option ℕ → Type 0
IsNumberOf t next number =
    MatchOption number
    (next ≡ None)
    (λ n. (x : Place) × (next ≡ Some x) × (place_of t n ≡ Some x))

-- in the session thread i continues at this instruction, if at any
abbrev pub IsNextOf : SessionOf → ℕ → Option ℕ → Type 0
IsNextOf x i number =
    AfterEach x (λ t h. IsNumberOf t (next_place (configuration_after t x.setup h) i) number)

-- the marks after an instruction was tried with this reply
abbrev pub marks_after : Option ℕ → Reply → List Bool → List Bool
marks_after None r marks = marks
marks_after (Some n) r marks = if refuses_context r then marks else slice_set marks n true

-- Keys of runs: numbers of 64 bits, which tell runs apart by their steps.

-- the key after a step of this thread that the instruction of this number makes
abbrev pub key_with : (key thread number : ℕ) → ℕ
key_with key thread number = bit_xor key (number * 128 + thread) * FACTOR % 2 ^ 64

-- the key after an attempt of this thread at this instruction: only a step changes it
abbrev pub key_after : (key thread : ℕ) → Option ℕ → Reply → ℕ
key_after key thread None reply = key
key_after key thread (Some number) reply =
    if is_granted reply then key_with key thread number else key

-- the key of a run that has ended, with the next instruction of this thread, if it has one
abbrev pub key_at_end : (key thread : ℕ) → Option ℕ → ℕ
key_at_end key thread number = key_with key thread (unwrap_or number NOWHERE)

-- the key of a history: each step adds the instruction that was next for its thread
pub data IsKey (t : Program) (s : SetupOf) : List Call → ℕ → Type 0 where
  no_call : IsKey t s [] FIRST_KEY
  one_call :
      {h : List Call} {key : ℕ} (call : Call) (number : Option ℕ)
      → IsKey t s h key
      → IsNumberOf t (next_place (configuration_after t s h) call.thread) number
      → IsKey t s (h ++ call ∷ []) (key_after key call.thread number call.reply)

-- the key extended by the next instructions of the first n threads
pub data IsEndKey (t : Program) (c : Configuration) (start : ℕ) : ℕ → ℕ → Type 0 where
  no_thread : IsEndKey t c start 0 start
  one_thread :
      {n key : ℕ} (number : Option ℕ)
      → IsEndKey t c start n key
      → IsNumberOf t (next_place c n) number
      → IsEndKey t c start (n + 1) (key_at_end key n number)

-- the key of a run: that of its steps, then of the next instructions at its end
pub record IsRunKey (t : Program) (s : SetupOf) (h : List Call) (key : ℕ) : Type 0 where
  pub steps : ℕ
  pub of_steps : IsKey t s h steps
  pub of_end : IsEndKey t (configuration_after t s h) steps (threads s) key

-- Threads that wait, and their places.

-- the threads below n that wait, in ascending order
abbrev pub waiting_below : Program → Configuration → ℕ → List ℕ
waiting_below t c zero = []
waiting_below t c (suc n) =
    if waits t c n then waiting_below t c n ++ n ∷ [] else waiting_below t c n

-- the next instruction of this thread has this number
abbrev pub IsNext : Program → Configuration → Waiting → Type 0
IsNext t c x = IsNumberOf t (next_place c x.thread) (Some x.number)

-- these are the threads below n that wait, in ascending order, each with its place
pub record AreWaiting (t : Program) (c : Configuration) (n : ℕ) (xs : List Waiting) : Type 0 where
  pub threads : map (λ x. x.thread) xs ≡ waiting_below t c n
  pub each : All (IsNext t c) xs

-- thread i waits at this instruction
pub record IsWait (t : Program) (c : Configuration) (i : ℕ) (x : Waiting) : Type 0 where
  pub waiting : waits t c i ≡ true
  pub thread : x.thread ≡ i
  pub next : IsNext t c x
