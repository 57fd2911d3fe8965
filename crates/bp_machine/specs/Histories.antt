-- Histories: the replies to attempts, lists of attempts, their reports, and the bits of a seed.
use Rattle.std.specs.Prelude.{◌≡◌, ℕ, ◌≤◌, List, [], ◌∷◌, length, Bool, true, false, if◌then◌else◌, ◌↔◌, IsTrue, not, ◌&&◌, nat_le, ◌++◌, Option, None, Some, slice_index_or, unwrap_or, ◌==◌, ◌<◌, zero, suc, ◌+◌, ◌||◌, filter, ◌/◌, ◌%◌, slice_get}
use Rattle.std.specs.List.{concat}
use Rattle.rand_pcg.specs.Lcg.{Lcg, started, increment_of}
use Rattle.rand_pcg.specs.Pcg.{multiplier_64, pcg32}
use Rattle.bp_syntax.specs.Ast.{Program, Name, Block, Then, Asserts, Decision}
use Rattle.bp_flat.specs.Moves.{Valuation, Frame, Configuration, is_call, StatementEffect, Leaves, Fails, Blocks, Misses, effect, after_effect, decision_value, Moves, frame_store}
use Rattle.bp_flat.specs.InstrEffects.{bits_of}
use Rattle.bp_machine.specs.declared.calls.Reply.{Reply}
use Rattle.bp_machine.specs.declared.calls.Reply.TheVariants.{Stopped, Ended, NoContexts, Full, Blocked, Failed, Stepped}
use Rattle.bp_machine.specs.declared.limits.TheConstants.{MAX_FRAMES}
use Rattle.bp_machine.specs.declared.calls.Call.{Call}
use Rattle.bp_machine.specs.Setups.{SetupOf, threads, start}
use Rattle.bp_machine.specs.declared.calls.Outcome.{Outcome}
use Rattle.bp_machine.specs.declared.calls.Outcome.TheVariants as outcome
use Rattle.bp_machine.specs.declared.calls.Report.{Report}

-- Contexts: uninterrupted steps of one thread.

-- each of these threads is thread i
abbrev pub EachIs : ℕ → List ℕ → Type 0
EachIs i [] = Unit {0}
EachIs i (t ∷ ts) = (t ≡ i) × EachIs i ts

-- each list has steps of one thread
abbrev pub EachOfOne : List (List ℕ) → Type 0
EachOfOne [] = Unit {0}
EachOfOne (piece ∷ pieces) = ((i : ℕ) × EachIs i piece) × EachOfOne pieces

-- the threads are a concatenation of at most k lists, each of one thread
pub record IsWithin (k : ℕ) (threads : List ℕ) : Type 0 where
  pub pieces : List (List ℕ)
  pub few : length pieces ≤ k
  pub each : EachOfOne pieces
  pub whole : concat pieces ≡ threads

-- k is the least such number
pub record IsLeastWithin (k : ℕ) (threads : List ℕ) : Type 0 where
  pub within : IsWithin k threads
  pub least : (m : ℕ) → IsWithin m threads → k ≤ m

-- Replies: their letters, those of granted steps, and those that are a thread's last.

-- x e n u b f s
abbrev pub letter_of : Reply → ℕ
letter_of Stopped = 120
letter_of Ended = 101
letter_of NoContexts = 110
letter_of Full = 117
letter_of Blocked = 98
letter_of Failed = 102
letter_of Stepped = 115

-- the attempt with this reply made a step
abbrev pub is_granted : Reply → Bool
is_granted Stepped = true
is_granted Failed = true
is_granted r = false

-- the thread makes no more attempts after this reply
abbrev pub is_last : Reply → Bool
is_last Stepped = false
is_last Blocked = false
is_last r = true

-- The reply to an attempt of a thread, and the configuration after it.

-- no more frames fit on the stack
abbrev pub is_full : List Frame → Bool
is_full stack = nat_le MAX_FRAMES (length stack)

abbrev pub stack_of : Configuration → ℕ → List Frame
stack_of c i = slice_index_or c.stacks i []

-- the reply to a step with this effect; a jump or a call to nowhere has none
abbrev pub reply_to_effect : StatementEffect → Option Reply
reply_to_effect (Leaves g stack) = Some Stepped
reply_to_effect Fails = Some Failed
reply_to_effect Blocks = Some Blocked
reply_to_effect Misses = None

-- the reply to a thread with this stack, if one more step fits within the contexts or not
abbrev pub reply_on_stack : Program → Bool → Valuation → List Frame → Bool → Option Reply
reply_on_stack t fits g [] bit = Some Ended
reply_on_stack t fits g (f ∷ fs) bit =
    if not fits then Some NoContexts
    else if is_call f.left && is_full (f ∷ fs) then Some Full
    else reply_to_effect (effect t.procedures f.left g f fs bit)

-- The reply to thread i with this choice bit, by the first condition that holds: an assertion
-- failed earlier; no frame; a further step is not within the contexts; a call, and no room; else
-- the reply to the step.
abbrev pub reply_of : Program → Bool → Configuration → ℕ → Bool → Option Reply
reply_of t fits c i bit =
    if c.failed then Some Stopped
    else reply_on_stack t fits c.globals (stack_of c i) bit

-- the reply r is the machine's if the threads of the steps so far are these, and k contexts are
-- allowed
pub record Answers
    (t : Program) (k : ℕ) (c : Configuration) (steps : List ℕ) (i : ℕ) (bit : Bool) (r : Reply)
    : Type 0 where
  pub fits : Bool
  pub decides : IsTrue fits ↔ IsWithin k (steps ++ i ∷ [])
  pub is : reply_of t fits c i bit ≡ Some r

-- the configuration after the next step of a stack of thread i
abbrev pub configuration_after_step :
    Program → Configuration → ℕ → Bool → List Frame → Option Configuration
configuration_after_step t c i bit [] = None
configuration_after_step t c i bit (f ∷ fs) =
    after_effect c i (effect t.procedures f.left c.globals f fs bit)

-- the configuration after an attempt with this reply: it changes only if the attempt made a step
abbrev pub configuration_after_call : Program → Configuration → ℕ → Bool → Reply → Configuration
configuration_after_call t c i bit r =
    if is_granted r then unwrap_or (configuration_after_step t c i bit (stack_of c i)) c else c

-- Histories: lists of attempts with their replies, oldest first.

-- the configuration after the attempts of a history, by their replies
abbrev pub configuration_after_calls : Program → Configuration → List Call → Configuration
configuration_after_calls t c [] = c
configuration_after_calls t c (x ∷ xs) =
    configuration_after_calls t (configuration_after_call t c x.thread x.bit x.reply) xs

abbrev pub configuration_after : Program → SetupOf → List Call → Configuration
configuration_after t s h = configuration_after_calls t (start t s) h

-- the attempts with a granted step
abbrev pub granted_calls : List Call → List Call
granted_calls h = filter (λ x. is_granted x.reply) h

-- the threads of the granted attempts
abbrev pub granted_threads : List Call → List ℕ
granted_threads [] = []
granted_threads (x ∷ xs) =
    if is_granted x.reply then x.thread ∷ granted_threads xs else granted_threads xs

abbrev pub calls_of_thread : ℕ → List Call → List Call
calls_of_thread i h = filter (λ x. x.thread == i) h

-- the last attempt had a last reply
abbrev pub ends_with_last : List Call → Bool
ends_with_last [] = false
ends_with_last (x ∷ []) = is_last x.reply
ends_with_last (x ∷ y ∷ xs) = ends_with_last (y ∷ xs)

-- thread i has terminated: its last attempt had such a reply, or it has as many attempts as are
-- allowed
abbrev pub is_terminated : SetupOf → List Call → ℕ → Bool
is_terminated s h i =
    ends_with_last (calls_of_thread i h) || nat_le s.calls (length (calls_of_thread i h))

-- the number of threads that the attempt x terminates after h
abbrev pub terminated_by : SetupOf → List Call → Call → ℕ
terminated_by s h x = if is_terminated s (h ++ x ∷ []) x.thread then 1 else 0

-- the number of live threads of the threads below n
abbrev pub live_below : ℕ → SetupOf → List Call → ℕ
live_below zero s h = 0
live_below (suc n) s h = if is_terminated s h n then live_below n s h else live_below n s h + 1

abbrev pub live_threads : SetupOf → List Call → ℕ
live_threads s h = live_below (threads s) s h

-- the attempt x may follow h: its thread is live, and its reply is the machine's
pub record IsAllowed (t : Program) (s : SetupOf) (h : List Call) (x : Call) : Type 0 where
  pub thread : x.thread < threads s
  pub still_live : is_terminated s h x.thread ≡ false
  pub answers :
      Answers t s.contexts (configuration_after t s h) (granted_threads h) x.thread x.bit x.reply

abbrev pub IsLegalAfter : Program → SetupOf → List Call → List Call → Type 0
IsLegalAfter t s h [] = Unit {0}
IsLegalAfter t s h (x ∷ xs) = IsAllowed t s h x × IsLegalAfter t s (h ++ x ∷ []) xs

-- each attempt of the history may follow those before it
abbrev pub IsLegal : Program → SetupOf → List Call → Type 0
IsLegal t s h = IsLegalAfter t s [] h

-- The report of a history.

-- the thread of the first attempt with the reply Failed
abbrev pub outcome_or : Call → Reply → Outcome → Outcome
outcome_or x Failed o = outcome.Failed x.thread
outcome_or x r o = o

abbrev pub outcome_of : List Call → Outcome
outcome_of [] = outcome.Clean
outcome_of (x ∷ xs) = outcome_or x x.reply (outcome_of xs)

-- the outcome is a failed assertion
abbrev pub is_failure : Outcome → Bool
is_failure (outcome.Failed i) = true
is_failure o = false

pub record IsReport (s : SetupOf) (h : List Call) (r : Report) : Type 0 where
  pub outcome : r.outcome ≡ outcome_of h
  pub calls : r.calls ≡ length h
  pub left_live : r.left_live ≡ live_threads s h
  pub contexts : IsLeastWithin r.contexts (granted_threads h)

-- these attempts are moves, one after the other, from c to d
pub data IsRun (t : Program) : Configuration → List Call → Configuration → Type 0 where
  ends : (c : Configuration) → IsRun t c [] c
  moves : (c : Configuration) (x : Call) (d : Configuration) (xs : List Call) (e : Configuration)
      → Moves t c x.thread x.bit d → IsRun t d xs e → IsRun t c (x ∷ xs) e

-- thread i is at an assertion whose decider is 0
pub record IsAtFalseAssertion (c : Configuration) (i : ℕ) (bit : Bool) : Type 0 where
  pub frame : Frame
  pub below : List Frame
  pub stack : stack_of c i ≡ frame ∷ below
  pub label : Option Name
  pub at : ℕ
  pub decision : Decision
  pub rest : Block
  pub asserts : frame.left ≡ Then label at (Asserts decision) rest
  pub false : decision_value (frame_store c.globals frame) bit decision ≡ Bool.false

-- the last granted step of the history is a failed one of thread i, at such an assertion
pub record IsRealFailure (t : Program) (s : SetupOf) (h : List Call) (i : ℕ) : Type 0 where
  pub before : List Call
  pub call : Call
  pub later : List Call
  pub whole : h ≡ before ++ call ∷ later
  pub thread : call.thread ≡ i
  pub failed : call.reply ≡ Failed
  pub last : granted_threads later ≡ []
  pub stands : IsAtFalseAssertion (configuration_after t s before) i call.bit

-- The choice bits of a seed. Each thread draws from a PCG generator of its own (XSH RR 64/32),
-- started with the seed as its state, on the stream 54 + the thread.

-- the generator of a thread after n words
unfoldable pub generator_after : ℕ → ℕ → ℕ → Lcg
generator_after seed thread zero = started 64 multiplier_64 seed (increment_of 64 (54 + thread))
generator_after seed thread (suc n) = (pcg32 (generator_after seed thread n)).1

-- word n of a thread, from 0
abbrev pub choice_word : ℕ → ℕ → ℕ → ℕ
choice_word seed thread n = (pcg32 (generator_after seed thread n)).0

-- bit n of a thread's choices, from 0: each word gives 32 of them, the lowest bit first
abbrev pub choice_bit : ℕ → ℕ → ℕ → Bool
choice_bit seed thread n = bits_of (choice_word seed thread (n / 32)) (n % 32)

-- a word whose bits are drawn, the place of the next one, and the generator after it
pub record ChoicesOf : Type 0 where
  pub word : ℕ
  pub place : ℕ
  pub generator : Lcg

-- the bit at the place
abbrev pub next_bit : ChoicesOf → Bool
next_bit x = bits_of x.word x.place

-- the choices are before bit n of the thread
pub record IsAt (x : ChoicesOf) (seed thread n : ℕ) : Type 0 where
  pub word : x.word ≡ choice_word seed thread (n / 32)
  pub place : x.place ≡ n % 32
  pub generator : x.generator ≡ generator_after seed thread (n / 32 + 1)

-- Histories with the choice bits of a seed.

-- attempt n of each thread, from 0, has its bit n
abbrev pub IsSeeded : ℕ → List Call → Type 0
IsSeeded seed h =
    (i n : ℕ) (x : Call)
    → slice_get (calls_of_thread i h) n ≡ Some x
    → x.bit ≡ choice_bit seed i n

-- if the setup has a seed, the history has its bits
abbrev pub HasSeededBits : SetupOf → List Call → Type 0
HasSeededBits s h = (seed : ℕ) → s.seed ≡ Some seed → IsSeeded seed h

-- the bit of the next attempt of thread i is that of the seed
pub record IsSeededBit (s : SetupOf) (h : List Call) (i : ℕ) (bit : Bool) : Type 0 where
  pub seed : ℕ
  pub has : s.seed ≡ Some seed
  pub is : bit ≡ choice_bit seed i (length (calls_of_thread i h))

-- the bit of the next attempt of thread i: the given bit if the setup has no seed; the seed's bit
-- if no bit was given
abbrev pub IsBitOfCall : SetupOf → List Call → ℕ → Option Bool → Bool → Type 0
IsBitOfCall s h i (Some given) bit = (s.seed ≡ None) × (bit ≡ given)
IsBitOfCall s h i None bit = IsSeededBit s h i bit
