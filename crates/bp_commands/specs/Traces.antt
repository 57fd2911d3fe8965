-- The commands on a trace or a schedule of a program, and on a bundle.
use Rattle.std.specs.Prelude.{◌≡◌, ◌⊎◌, ◌++◌, ℕ, List, ◌≤◌, ◌==◌, Bool, true, [], ◌∷◌, length, Option, Result}
use Rattle.bp_syntax.specs.Ast.{Program}
use Rattle.bp_machine.specs.declared.calls.Call.{Call}
use Rattle.bp_machine.specs.declared.calls.Report.{Report}
use Rattle.bp_machine.specs.Runs.{printed_rows}
use Rattle.bp_machine.specs.Histories.{outcome_of, IsReport, IsLeastWithin, granted_calls, granted_threads, is_failure}
use Rattle.bp_machine.specs.Setups.{SetupOf, StartOf, default_start}
use Rattle.bp_trace.specs.declared.errors.ReplayError.{ReplayError}
use Rattle.bp_trace.specs.declared.traces.Version.{Version}
use Rattle.bp_trace.specs.Replays.{IsTrace, IsReplayRefusal}
use Rattle.bp_trace.specs.TraceText.{trace_text_2, trace_text}
use Rattle.bp_trace.specs.declared.errors.DriveError.{DriveError}
use Rattle.bp_trace.specs.Drives.{IsDriven, IsScheduleRefusal}
use Rattle.bp_trace.specs.declared.traces.Version.TheVariants.{One}
use Rattle.bp_code.specs.WellFormedTexts.{IsWellFormedText}
use Rattle.bp_source.specs.NamedBits.{NamedBitOf}
use Rattle.bp_test.specs.declared.waits.Waiting.{Waiting}
use Rattle.bp_test.specs.Tests.{FailsAt, IsDeadlock}
use Rattle.bp_test.specs.Shrinks.{DeadlocksAt, IsOtherEnd, with_contexts}
use Rattle.bp_messages.specs.declared.errors.Error.{Error}
use Rattle.bp_messages.specs.declared.errors.Error.TheVariants.{Memory, NoFailure}
use Rattle.bp_messages.specs.ErrorTable.{error_of_trace, error_of_schedule}
use Rattle.bp_messages.specs.ReplayLines.{shown_text}
use Rattle.bp_flat.specs.Flat.{Flat}
use Rattle.bp_commands.specs.Commands.{AnswersOf, Command, Pair}
use Rattle.bp_commands.specs.Programs.{HasNoCode, IsNotOpened, IsOpened}

-- The commands on a trace of a program, `replay` and `migrate` among them.

-- The text that a command writes of a history, as a rule on the program text, the program, the
-- setup, the history and the text.
abbrev pub TextRule : Type 1
TextRule = List ℕ → Program → SetupOf → List Call → List ℕ → Type 0

-- the text of a replayed history: the values that its steps printed, and its outcome
abbrev pub IsReplayText : TextRule
IsReplayText text t s h written = written ≡ shown_text (printed_rows t s h) (outcome_of h)

-- the trace of version 2 of a history
abbrev pub IsMigrationText : TextRule
IsMigrationText text t s h written = written ≡ trace_text_2 s h

-- the text has this well-formed program, and the trace is that of a legal history of it
pub record IsTraceOf
    (text trace : List ℕ) (t : Program) (s : SetupOf) (h : List Call) : Type 0 where
  pub of : IsWellFormedText text t
  pub version : Version
  pub is : IsTrace t version s h trace

-- the trace is that of a legal history of the program, and this is written of it
module _ (is_text : TextRule) where
  pub record IsOfTrace (given : Pair) (written : List ℕ) : Type 0 where
    pub program : Program
    pub setup : SetupOf
    pub history : List Call
    pub legal : IsTraceOf given.text given.input program setup history
    pub is : is_text given.text program setup history written

  -- this is also its report
  pub record IsTraceReport (given : Pair) (written : List ℕ) (report : Report) : Type 0 where
    pub trace : IsOfTrace given written
    pub reported : IsReport trace.setup trace.history report

  -- memory was refused after a beginning of such a text was written
  pub record IsBegun (given : Pair) (begun : List ℕ) (f : Error) : Type 0 where
    pub rest : List ℕ
    pub whole : IsOfTrace given (begun ++ rest)
    pub is : f ≡ Memory

-- the text is that of a well-formed program, and the other text is not a trace of it
pub record IsNoTrace (given : Pair) (f : Error) : Type 0 where
  pub program : Program
  pub well_formed : IsWellFormedText given.text program
  pub cause : ReplayError
  pub why : IsReplayRefusal program given.input cause
  pub is : f ≡ error_of_trace cause

-- a command that writes such a text of a history
abbrev pub on_trace : TextRule → Command Pair Report
on_trace is_text = record {
  Writes = IsOfTrace is_text;
  Reports = IsTraceReport is_text;
  Refuses = λ given f. HasNoCode given.text f ⊎ IsNoTrace given f;
  Spoils = λ _ _ _. ⊥;
}

-- the command writes the values that the steps printed, and the outcome
abbrev pub replays : Command Pair Report
replays = on_trace IsReplayText

-- the command writes the trace of version 2 of the same history
abbrev pub migrates : Command Pair Report
migrates = on_trace IsMigrationText

-- this is the answer of a command on a trace of the program of this code
abbrev pub AnswersByCode
    : Command Pair Report → Flat → (trace : List ℕ) → Option (List ℕ) → Option (List ℕ)
    → Result Report Error → Type 0
AnswersByCode command code trace old new r =
    (text : List ℕ)
    → IsWellFormedText text code.tree
    → AnswersOf command (record { text = text; input = trace }) old new r

-- The parts of a bundle: a program text, a line that is exactly `%`, and a schedule.

-- a line `%` begins the bytes; it ends with its line feed or with the bytes
abbrev pub IsSeparated : List ℕ → List ℕ → Type 0
IsSeparated bytes rest = (bytes ≡ 37 ∷ 10 ∷ rest) ⊎ ((bytes ≡ 37 ∷ []) × (rest ≡ []))

abbrev pub HasNoSeparator : List ℕ → Type 0
HasNoSeparator bytes = (rest : List ℕ) → IsSeparated bytes rest → ⊥

-- the bytes end a line: there are none, or the last of them is a line feed
abbrev pub ends_line : List ℕ → Bool
ends_line [] = true
ends_line (b ∷ []) = b == 10
ends_line (b ∷ c ∷ bs) = ends_line (c ∷ bs)

-- no line `%` begins in front of the n-th byte
abbrev pub HasNoneBefore : List ℕ → ℕ → Type 0
HasNoneBefore input n =
    (front bytes rest : List ℕ)
    → ends_line front ≡ true
    → IsSeparated bytes rest
    → input ≡ front ++ bytes
    → n ≤ length front

-- the first line `%` is between text and schedule
pub record IsSplit (input text schedule : List ℕ) : Type 0 where
  pub separated : List ℕ
  pub whole : input ≡ text ++ separated
  pub separator : IsSeparated separated schedule
  pub line : ends_line text ≡ true
  pub first : HasNoneBefore input (length text)

-- no line is `%`, and the whole input is the text
pub record IsAllText (input text schedule : List ℕ) : Type 0 where
  pub none : HasNoneBefore input (length input)
  pub all : text ≡ input
  pub rest : schedule ≡ []

abbrev pub IsParted : List ℕ → List ℕ → List ℕ → Type 0
IsParted input text schedule = IsSplit input text schedule ⊎ IsAllText input text schedule

-- The command `drive`.

-- The program of a text is driven by a schedule from this start, in which these globals have their
-- bits by name, with the schedule's choice bits.
module _ (start : StartOf) (named : List NamedBitOf) (given : Pair) where
  -- the schedule drives the program to a history, whose trace is written
  pub record IsOfSchedule (written : List ℕ) : Type 0 where
    pub program : Program
    pub setup : SetupOf
    pub opened : IsOpened start named given.text program setup
    pub history : List Call
    pub driven : IsDriven program setup given.input history
    pub is : written ≡ trace_text setup history

  -- this is also its report
  pub record IsScheduleReport (written : List ℕ) (report : Report) : Type 0 where
    pub trace : IsOfSchedule written
    pub reported : IsReport trace.setup trace.history report

  -- the program accepts the setup, and the schedule does not drive it
  pub record IsScheduleRefused (f : Error) : Type 0 where
    pub program : Program
    pub setup : SetupOf
    pub opened : IsOpened start named given.text program setup
    pub cause : DriveError
    pub why : IsScheduleRefusal program setup given.input cause
    pub is : f ≡ error_of_schedule cause

-- the command writes the trace of the history to which the schedule drives the program
abbrev pub drives : StartOf → List NamedBitOf → Command Pair Report
drives start named = record {
  Writes = IsOfSchedule start named;
  Reports = IsScheduleReport start named;
  Refuses = λ given f.
      IsNotOpened start named given.text f ⊎ IsScheduleRefused start named given f;
  Spoils = λ _ _ _. ⊥;
}

-- The command without a name, which drives a bundle.

-- this holds of the program text and the schedule of a bundle
pub record OfBundle (Holds : Pair → Type 0) (bytes : List ℕ) : Type 0 where
  pub parts : Pair
  pub parted : IsParted bytes parts.text parts.input
  pub holds : Holds parts

-- the command drives the program of the bundle by its schedule, from the defaults
abbrev pub bundles : Command (List ℕ) Report
bundles =
    let drives = drives default_start [] in
    record {
      Writes = λ bytes written. OfBundle (λ parts. drives.Writes parts written) bytes;
      Reports = λ bytes written r. OfBundle (λ parts. drives.Reports parts written r) bytes;
      Refuses = λ bytes f. (f ≡ Memory) ⊎ OfBundle (λ parts. drives.Refuses parts f) bytes;
      Spoils = λ _ _ _. ⊥;
    }

-- The text that `shrink` writes of a trace that ends in a failure or a deadlock, and its refusals.

-- two histories of a program, each of its own setup
module _ (t : Program) (s z : SetupOf) (h g : List Call) where
  -- in both an assertion failed, at the instruction of one number
  pub record FailAlike : Type 0 where
    pub number : ℕ
    pub one : FailsAt t s h number
    pub other : FailsAt t z g number

  -- both end in a deadlock, in which the same threads wait at the same instructions
  pub record DeadlockAlike : Type 0 where
    pub waiting : List Waiting
    pub one : DeadlocksAt t s h waiting
    pub other : DeadlocksAt t z g waiting

-- The trace of a history in which the same assertion of the same thread failed as in h, or which
-- ends in the same deadlock, by no more attempts and no more contexts. Each of its attempts made a
-- step. Its setup is that of h except for the seed, which it lacks, and the contexts, which are
-- those that it uses.
pub record IsShrunkText
    (text : List ℕ) (t : Program) (s : SetupOf) (h : List Call) (written : List ℕ)
    : Type 0 where
  pub setup : SetupOf
  pub history : List Call
  pub trace : IsTrace t One setup history written
  pub same : setup ≡ with_contexts s setup.contexts
  pub used : IsLeastWithin setup.contexts (granted_threads history)
  pub steps : granted_calls history ≡ history
  pub alike : FailAlike t s setup h history ⊎ DeadlockAlike t s setup h history
  pub outcome : outcome_of history ≡ outcome_of h
  pub calls : length history ≤ length h
  pub contexts : (n : ℕ) → IsLeastWithin n (granted_threads h) → setup.contexts ≤ n

-- the trace is accepted, and ends neither in a failure nor in a deadlock
pub record HasNoFailure (given : Pair) (f : Error) : Type 0 where
  pub program : Program
  pub setup : SetupOf
  pub history : List Call
  pub legal : IsTraceOf given.text given.input program setup history
  pub other : IsOtherEnd program setup history
  pub is : f ≡ NoFailure

-- the trace is accepted, ends in a failure or in a deadlock, and memory was refused after that
pub record LacksMemory (given : Pair) (f : Error) : Type 0 where
  pub program : Program
  pub setup : SetupOf
  pub history : List Call
  pub legal : IsTraceOf given.text given.input program setup history
  pub ended : (is_failure (outcome_of history) ≡ true) ⊎ IsDeadlock program setup history
  pub is : f ≡ Memory

-- why no end is kept: there is none, or memory was refused in a deadlock
abbrev pub IsEndRefusal : Program → SetupOf → List Call → Error → Type 0
IsEndRefusal t s h NoFailure = IsOtherEnd t s h
IsEndRefusal t s h Memory = IsDeadlock t s h
IsEndRefusal t s h f = ⊥

-- the command writes such a trace, and reports the history of the trace that was read
abbrev pub shrinks : Command Pair Report
shrinks = record {
  Writes = IsOfTrace IsShrunkText;
  Reports = IsTraceReport IsShrunkText;
  Refuses = λ given f.
      HasNoCode given.text f
      ⊎ (IsNoTrace given f
      ⊎ (HasNoFailure given f
      ⊎ LacksMemory given f));
  Spoils = λ _ _ _. ⊥;
}
