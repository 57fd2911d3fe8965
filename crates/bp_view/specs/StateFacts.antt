-- The shown part of a state, as plain facts.
use Rattle.std.specs.Prelude.{if◌then◌else◌, ℕ, List, [], ◌∷◌, Option, None, Some, ◌≡◌, suc, Bool, length, map, option_map}
use Rattle.bp_text.specs.declared.lines.Position.{Position}
use Rattle.bp_text.specs.Lines.{position_at}
use Rattle.bp_syntax.specs.Ast.{Program, Procedure}
use Rattle.bp_flat.specs.InstrEffects.{bits_of}
use Rattle.bp_flat.specs.Moves.{Frame, Valuation}
use Rattle.bp_flat.specs.StandsFor.{valuation_of, variables, start_of_block}
use Rattle.bp_machine.specs.declared.calls.Call.{Call}
use Rattle.bp_machine.specs.declared.calls.Reply.{Reply}
use Rattle.bp_machine.specs.declared.calls.Reply.TheVariants as reply
use Rattle.bp_machine.specs.Histories.{calls_of_thread, configuration_after, is_terminated, stack_of, outcome_of}
use Rattle.bp_machine.specs.Setups.{SetupOf, threads}
use Rattle.bp_machine.specs.Runs.{waits}
use Rattle.bp_machine.specs.declared.calls.Outcome.{Outcome}
use Rattle.bp_source.specs.SourceStatements.{place_text, IsStatementAt}
use Rattle.bp_view.specs.declared.state_facts.Status.{Status}
use Rattle.bp_view.specs.declared.state_facts.Status.TheVariants.{Failed, Finished, FullStack, Open, OutOfCalls, OutOfContexts, Stopped, Waiting}
use Rattle.bp_view.specs.declared.state_facts.FrameFacts.{FrameFacts}
use Rattle.bp_view.specs.declared.state_facts.StateFacts.{StateFacts}
use Rattle.bp_view.specs.declared.state_facts.ThreadFacts.{ThreadFacts}

-- A thread's status after a history.

-- the reply to the last of the attempts
abbrev pub last_reply : List Call → Option Reply
last_reply [] = None
last_reply (x ∷ []) = Some x.reply
last_reply (x ∷ y ∷ xs) = last_reply (y ∷ xs)

-- why a thread makes no more attempts, by the reply to its last one
abbrev pub status_after : Option Reply → Status
status_after (Some reply.Ended) = Finished
status_after (Some reply.Failed) = Failed
status_after (Some reply.NoContexts) = OutOfContexts
status_after (Some reply.Full) = FullStack
status_after (Some reply.Stopped) = Stopped
status_after (Some reply.Blocked) = OutOfCalls
status_after (Some reply.Stepped) = OutOfCalls
status_after None = OutOfCalls

-- The status of thread i after the history h, by the first that applies: it makes no more attempts;
-- its next statement is an assumption of 0, whatever its choice bit is; an assertion failed. If
-- none does, it continues.
abbrev pub status : Program → SetupOf → List Call → ℕ → Status
status t s h i =
    let now = configuration_after t s h in
    if is_terminated s h i then status_after (last_reply (calls_of_thread i h))
    else if waits t now i then Waiting
    else if now.failed then Stopped
    else Open

-- The shown facts of a frame: the number of frames above it; its procedure; the start of its next
-- statement, as printed and as a line and a column; the text of that statement; and its variables
-- with their values.
pub record ShownFrame : Type 0 where
  pub above : ℕ
  pub procedure : Procedure
  pub place : List ℕ
  pub position : Option Position
  pub text : List ℕ
  pub locals : Valuation

-- the shown facts of a thread: its number, its status, and the frames of its stack from the top
pub record ShownThread : Type 0 where
  pub thread : ℕ
  pub status : Status
  pub frames : List ShownFrame

-- The shown facts of a state: the number of attempts made, and of the whole history; whether an
-- assertion failed; the globals with their values; and the threads.
pub record ShownState : Type 0 where
  pub number : ℕ
  pub count : ℕ
  pub outcome : Outcome
  pub globals : Valuation
  pub threads : List ShownThread

-- the facts of the values of src/
abbrev pub frame_in : FrameFacts → ShownFrame
frame_in x =
    record {
      above = x.above;
      procedure = x.proc.now;
      place = x.place.now;
      position = x.position;
      text = x.text.now;
      locals = valuation_of (variables x.proc.now) (bits_of x.locals);
    }

abbrev pub thread_in : ThreadFacts → ShownThread
thread_in x =
    record {
      thread = x.thread;
      status = x.status;
      frames = map frame_in x.frames.items;
    }

abbrev pub state_in : StateFacts → ShownState
state_in x =
    record {
      number = x.number;
      count = x.count;
      outcome = x.outcome;
      globals = valuation_of x.globals.now (bits_of x.values);
      threads = map thread_in x.threads.items;
    }

module _ (text : List ℕ) where
  -- these are the facts of a frame that has n others above it
  pub record AreFrameFacts (n : ℕ) (f : Frame) (x : ShownFrame) : Type 0 where
    pub above : x.above ≡ n
    pub procedure : x.procedure ≡ f.procedure
    pub place : x.place ≡ place_text text (start_of_block f.left)
    pub position : x.position ≡ option_map (position_at text) (start_of_block f.left)
    pub reads : Bool
    pub statement : IsStatementAt text f.procedure (start_of_block f.left) x.text reads
    pub locals : x.locals ≡ f.locals

  -- these are the facts of the frames below n others, one for each
  abbrev pub AreStackFacts : ℕ → List Frame → List ShownFrame → Type 0
  AreStackFacts n [] [] = Unit {0}
  AreStackFacts n (f ∷ fs) (x ∷ xs) = AreFrameFacts n f x × AreStackFacts (suc n) fs xs
  AreStackFacts n fs xs = ⊥

-- Of a program and its text, in a setup; after the history h.
module _ (t : Program) (text : List ℕ) (s : SetupOf) (h : List Call) where
  -- these are the facts of thread i
  pub record AreThreadFacts (i : ℕ) (x : ShownThread) : Type 0 where
    pub thread : x.thread ≡ i
    pub status_is : x.status ≡ status t s h i
    pub frames : AreStackFacts text 0 (stack_of (configuration_after t s h) i) x.frames

  -- these are the facts of the threads from thread i on
  abbrev pub AreThreadsFacts : ℕ → List ShownThread → Type 0
  AreThreadsFacts i [] = Unit {0}
  AreThreadsFacts i (x ∷ xs) = AreThreadFacts i x × AreThreadsFacts (suc i) xs

  -- these are the facts of the state, if the whole history has this number of attempts
  pub record AreStateFacts (count : ℕ) (x : ShownState) : Type 0 where
    pub number : x.number ≡ length h
    pub count_is : x.count ≡ count
    pub outcome : x.outcome ≡ outcome_of h
    pub globals : x.globals ≡ (configuration_after t s h).globals
    pub all_threads : length x.threads ≡ threads s
    pub threads_are : AreThreadsFacts 0 x.threads
