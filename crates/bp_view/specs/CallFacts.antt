-- An attempt's effects, as plain facts; and the session after the first attempts of a history.
use Rattle.std.specs.Prelude.{◌≡◌, ℕ, List, if◌then◌else◌, ◌==◌, nat_lt, [], ◌∷◌, length, take, Bool, ◌++◌, Option, None, Some, map, option_map, ◌&&◌, not, suc, false, MatchOption, slice_get, codes, ◌≤◌, ◌<◌, ◌⊎◌, min}
use Rattle.bp_text.specs.declared.lines.Position.{Position}
use Rattle.bp_text.specs.Lines.{IsOneLine, position_at}
use Rattle.bp_syntax.specs.Ast.{Program, Procedure}
use Rattle.bp_flat.specs.Moves.{Frame, Configuration, Valuation, same_bit}
use Rattle.bp_flat.specs.StandsFor.{start_of_block}
use Rattle.bp_machine.specs.Histories.{stack_of, IsLeastWithin, configuration_after, granted_threads, is_granted}
use Rattle.bp_machine.specs.declared.calls.Call.{Call}
use Rattle.bp_machine.specs.Sessions.{last_thread, Stands}
use Rattle.bp_machine.specs.Setups.{SetupOf}
use Rattle.bp_machine.specs.Runs.{IsTop, values_printed}
use Rattle.bp_machine.specs.declared.calls.Reply.{Reply}
use Rattle.bp_machine.specs.declared.calls.Reply.TheVariants.{Blocked, Failed, Stepped}
use Rattle.bp_machine.specs.declared.tops.Top.{Top}
use Rattle.bp_source.specs.declared.source_statements.SourceStatement.{SourceStatement}
use Rattle.bp_source.specs.Listings.{name_at}
use Rattle.bp_source.specs.SourceStatements.{AreSourceStatements, place_text, IsStatementAt}
use Rattle.bp_view.specs.declared.program_facts.ProgramFacts.{ProgramFacts}
use Rattle.bp_view.specs.declared.change_facts.Change.{Change}
use Rattle.bp_view.specs.declared.checkpoints.ReplayedCall.{ReplayedCall}
use Rattle.bp_view.specs.declared.call_facts.CallFacts.{CallFacts}
use Rattle.bp_view.specs.declared.call_facts.Next.{Next as NextFacts}
use Rattle.bp_view.specs.declared.checkpoints.Checkpoint.{Checkpoint}
use Rattle.bp_view.specs.declared.checkpoints.CheckpointWatcher.{CheckpointWatcher}

-- The facts of a program and its text.

-- these are the source statements, the globals and the procedures of the program
pub record AreProgramFacts (t : Program) (text : List ℕ) (x : ProgramFacts) : Type 0 where
  pub statements : AreSourceStatements text t x.statements.now
  pub globals : x.globals.now ≡ t.globals
  pub procedures : x.procs.now ≡ t.procedures

-- The variables that an attempt changed, by the configurations before and after it.

-- the variables whose values before and after differ, with their values after; both have the same
-- names
abbrev pub changed : (before after : Valuation) → Valuation
changed [] after = []
changed (x ∷ xs) [] = []
changed (x ∷ xs) (y ∷ ys) = if same_bit x.1 y.1 then changed xs ys else y ∷ changed xs ys

-- the formals of a frame
abbrev pub arguments_of : Frame → Valuation
arguments_of f = take (length f.procedure.formals) f.locals

-- the changes of an attempt in the frame at the top of a stack, by the depths before and after it:
-- the formals of a procedure that it entered, or the locals that have other values; nothing after a
-- return
abbrev pub frame_changed : Frame → Frame → (depth_before depth_after : ℕ) → Valuation
frame_changed f g m n =
    if nat_lt m n then arguments_of g
    else if m == n then changed f.locals g.locals
    else []

-- A device: if the stacks have the same depth, their top frames are of the same procedure.
abbrev pub IsSameCall : (before after : List Frame) → Type 0
IsSameCall [] after = Unit {0}
IsSameCall (f ∷ fs) [] = Unit {0}
IsSameCall (f ∷ fs) (g ∷ gs) = length (f ∷ fs) ≡ length (g ∷ gs) → f.procedure ≡ g.procedure

-- A device: this also holds of the stacks of thread i, and an attempt without a stack before or
-- after it changes no global.
pub record IsNext (c d : Configuration) (i : ℕ) : Type 0 where
  pub call : IsSameCall (stack_of c i) (stack_of d i)
  pub idle : stack_of c i ≡ [] → d.globals ≡ c.globals
  pub ended : stack_of d i ≡ [] → d.globals ≡ c.globals

-- The changes of an attempt, as plain facts.

-- a variable, with the procedure of a local, and its value
pub record Entry : Type 0 where
  pub owner : Option Procedure
  pub name : List ℕ
  pub value : Bool

-- the entry of a change
abbrev pub entry_of : Change → Entry
entry_of x = record { owner = option_map (λ p. p.now) x.owner; name = x.name.now; value = x.value }

-- these variables, of this owner
abbrev pub owned : Option Procedure → Valuation → List Entry
owned owner values = map (λ v. record { owner = owner; name = v.0; value = v.1 }) values

-- the changes of an attempt in the frame at the top of a stack
abbrev pub frame_entries : Frame → Frame → (depth_before depth_after : ℕ) → List Entry
frame_entries f g m n = owned (Some g.procedure) (frame_changed f g m n)

abbrev pub stack_entries : (before after : List Frame) → List Entry
stack_entries [] after = []
stack_entries (f ∷ fs) [] = []
stack_entries (f ∷ fs) (g ∷ gs) = frame_entries f g (length (f ∷ fs)) (length (g ∷ gs))

-- the changes of an attempt of thread i: globals, and the variables at the top of its stack
abbrev pub changes_between : (before after : Configuration) → ℕ → List Entry
changes_between c d i =
    owned None (changed c.globals d.globals) ++ stack_entries (stack_of c i) (stack_of d i)

-- A device: the variable, if its values before and after differ.
abbrev pub slot_entry : Option Procedure → List ℕ → (before after : Bool) → List Entry
slot_entry owner name p q =
    if same_bit p q then [] else record { owner = owner; name = name; value = q } ∷ []

-- An attempt of a history with its context and the tops of its thread's stack before and after it.

-- the step is one of another thread than the last
abbrev pub is_other : Option ℕ → ℕ → Bool
is_other None i = false
is_other (Some l) i = not (l == i)

abbrev pub is_switch : List Call → Call → Bool
is_switch h x = is_granted x.reply && is_other (last_thread (granted_threads h)) x.thread

-- the context of the step of the attempt x after h, if it is granted
abbrev pub IsContext : List Call → Call → Option ℕ → Type 0
IsContext h x None = is_granted x.reply ≡ false
IsContext h x (Some n) =
    (is_granted x.reply ≡ Bool.true) × IsLeastWithin n (granted_threads (h ++ x ∷ []))

-- An attempt of thread i leads from one configuration to the other, and these are the tops of its
-- stack before and after it.
pub record Leads (t : Program) (c d : Configuration) (i : ℕ) (m : ReplayedCall) : Type 0 where
  pub before : MatchOption m.before (stack_of c i ≡ []) (IsTop t c i)
  pub after : MatchOption m.after (stack_of d i ≡ []) (IsTop t d i)
  pub next : IsNext c d i

-- the replayed attempt is that of the attempt x after h
pub record IsReplayedCall (t : Program) (s : SetupOf) (h : List Call) (x : Call) (m : ReplayedCall)
    : Type 0 where
  pub number : m.number ≡ suc (length h)
  pub call : m.call ≡ x
  pub context : IsContext h x m.context
  pub switch : m.is_switch ≡ is_switch h x
  pub leads :
      let now = configuration_after t s h in
      Leads t now (configuration_after t s (h ++ x ∷ [])) x.thread m

-- The shown part of an attempt, as plain facts.

-- The next statement of a thread: its start, as printed and as a line and a column; its procedure;
-- the number of frames of the stack; the text of the statement, and whether it reads a choice bit.
pub record Next : Type 0 where
  pub place : List ℕ
  pub position : Option Position
  pub procedure : Option (List ℕ)
  pub depth : ℕ
  pub text : Option (List ℕ)
  pub reads : Bool

-- a thread that has ended has no next statement
abbrev pub nothing_next : Next
nothing_next =
    record {
      place = codes "-";
      position = None;
      procedure = None;
      depth = 0;
      text = None;
      reads = false;
    }

-- the next statement at this top of a stack, which has this source statement
abbrev pub next_at : List Procedure → SourceStatement → Top → Next
next_at ps statement x =
    record {
      place = statement.place.items;
      position = statement.position;
      procedure = name_at ps statement.procedure;
      depth = x.depth;
      text = Some statement.excerpt.text.items;
      reads = statement.excerpt.reads_choice;
    }

abbrev pub next_at_if : List Procedure → Top → Option SourceStatement → Next
next_at_if ps x None = nothing_next
next_at_if ps x (Some statement) = next_at ps statement x

-- the next statement of a thread with this top of its stack, by the facts of a program
abbrev pub next_by : ProgramFacts → Option Top → Next
next_by p None = nothing_next
next_by p (Some x) = next_at_if p.procs.now x (slice_get p.statements.now x.number)

-- The shown facts of an attempt: its number from 1, the attempt with its reply, its context,
-- whether the step before was another thread's, its thread's next statement, and its changes.
pub record ShownCall : Type 0 where
  pub number : ℕ
  pub call : Call
  pub context : Option ℕ
  pub switch : Bool
  pub next : Next
  pub changes : List Entry

-- the facts of the values of src/
abbrev pub next_in : NextFacts → Next
next_in x =
    record {
      place = x.place.now;
      position = x.position;
      procedure = option_map (λ s. s.now) x.procedure;
      depth = x.depth;
      text = option_map (λ s. s.now) x.text;
      reads = x.reads_choice;
    }

abbrev pub facts_in : CallFacts → ShownCall
facts_in x =
    record {
      number = x.number;
      call = x.call;
      context = x.context;
      switch = x.is_switch;
      next = next_in x.next;
      changes = map entry_of x.changes.now;
    }

-- the next statement was tried: it made a step, or its assumption was 0
abbrev pub is_tried : Reply → Bool
is_tried Stepped = Bool.true
is_tried Failed = Bool.true
is_tried Blocked = Bool.true
is_tried r = false

-- the choice bit of an attempt whose statement reads one, if it was tried
abbrev pub choice_of : ShownCall → Option Bool
choice_of f = if f.next.reads && is_tried f.call.reply then Some f.call.bit else None

-- the statement that a frame has next, or its procedure's end, at this depth of a stack
pub record IsNextAt (text : List ℕ) (f : Frame) (depth : ℕ) (next : Next) : Type 0 where
  pub place : next.place ≡ place_text text (start_of_block f.left)
  pub position : next.position ≡ option_map (position_at text) (start_of_block f.left)
  pub procedure : next.procedure ≡ Some f.procedure.name.text
  pub depth_is : next.depth ≡ depth
  pub shown : List ℕ
  pub said : next.text ≡ Some shown
  pub statement : IsStatementAt text f.procedure (start_of_block f.left) shown next.reads
  pub one_line : IsOneLine shown

-- the next statement of a thread with this stack
abbrev pub IsNextOf : List ℕ → List Frame → Next → Type 0
IsNextOf text [] next = next ≡ nothing_next
IsNextOf text (f ∷ fs) next = IsNextAt text f (length (f ∷ fs)) next

-- the values that an attempt prints in this configuration: those of a step at a print
abbrev pub printed_by : Configuration → Call → Option (List Bool)
printed_by c x =
    if is_granted x.reply then values_printed c.globals (stack_of c x.thread) else None

-- the changes of the attempt x after the history h of a program
abbrev pub changes_by : Program → SetupOf → (h : List Call) → Call → List Entry
changes_by t s h x =
    changes_between (configuration_after t s h) (configuration_after t s (h ++ x ∷ [])) x.thread

-- these are the facts of the attempt x after h
pub record AreCallFacts
    (t : Program) (text : List ℕ) (s : SetupOf) (h : List Call) (x : Call) (f : ShownCall)
    : Type 0 where
  pub number : f.number ≡ suc (length h)
  pub call : f.call ≡ x
  pub context : IsContext h x f.context
  pub switch : f.switch ≡ is_switch h x
  pub next : IsNextOf text (stack_of (configuration_after t s h) x.thread) f.next
  pub changes : f.changes ≡ changes_by t s h x

-- Checkpoints: the session after the first attempts of a history.

-- Of a program in a setup, and a history.
module _ (t : Program) (s : SetupOf) (h : List Call) where
  -- the session stands after the first attempts of the history, as many as the checkpoint says
  pub record IsCheckpoint (x : Checkpoint) : Type 0 where
    pub few : x.made ≤ length h
    pub program : x.session.code.tree ≡ t
    pub setup : x.session.setup ≡ s
    pub stands : Stands t x.session (take x.made h)
    pub last : x.last ≡ last_thread (granted_threads (take x.made h))

  -- these are the first n attempts, or all if there are fewer
  pub record IsCheckpointAfter (n : ℕ) (x : Checkpoint) : Type 0 where
    pub is : IsCheckpoint x
    pub made : x.made ≡ min n (length h)

  -- A device: a checkpoint after the first n attempts was kept, or n is 0, or there are fewer.
  abbrev pub IsKept : (n : ℕ) → Option Checkpoint → Type 0
  IsKept n None = (n ≡ 0) ⊎ (length h < n)
  IsKept n (Some x) = IsCheckpoint x × (x.made ≡ n)

  -- A device: a watcher has counted the attempts of the history.
  pub record HasCounted (w : CheckpointWatcher) : Type 0 where
    pub made : w.made ≡ length h
    pub last : w.last ≡ last_thread (granted_threads h)
    pub kept : IsKept w.after w.kept
