-- The command `show`, `show --at`, `show --contexts` and `show --steps`.
use Rattle.std.specs.Prelude.{◌≡◌, ◌⊎◌, ◌≤◌, ℕ, Bool, true, false, List, Option, None, Some, length, take, ◌++◌, [], ◌∷◌, codes, decimal}
use Rattle.std.specs.List.{concat}
use Rattle.bp_syntax.specs.Ast.{Program}
use Rattle.bp_machine.specs.declared.calls.Call.{Call}
use Rattle.bp_machine.specs.declared.calls.Report.{Report}
use Rattle.bp_machine.specs.Histories.{IsReport}
use Rattle.bp_machine.specs.Setups.{SetupOf, threads}
use Rattle.bp_trace.specs.Replays.{HasNoCalls, IsAcceptedTrace, IsSomeTrace, IsReplayRefusal}
use Rattle.bp_trace.specs.declared.replays.AcceptedTrace.{AcceptedTrace}
use Rattle.bp_trace.specs.declared.errors.ReplayError.{ReplayError}
use Rattle.bp_code.specs.WellFormedTexts.{IsWellFormedText}
use Rattle.bp_source.specs.declared.tasks.ShowTask.{ShowTask}
use Rattle.bp_source.specs.declared.options.ViewFormat.{ViewFormat}
use Rattle.bp_source.specs.declared.options.ViewOptions.{ViewOptions}
use Rattle.bp_source.specs.declared.options.ViewFormat.TheVariants.{Columns, Json}
use Rattle.bp_view.specs.ContextLines.{AreContextLines}
use Rattle.bp_view.specs.States.{IsStateText}
use Rattle.bp_view.specs.Views.{IsThere, IsView}
use Rattle.bp_view.specs.Filters.{watched_names, AreDeclared, IsUndeclared}
use Rattle.bp_confirm.specs.OwnSteps.{own_steps, own_steps_text}
use Rattle.bp_messages.specs.declared.errors.Error.{Error}
use Rattle.bp_messages.specs.declared.errors.Error.TheVariants.{NoThread, NoVariable}
use Rattle.bp_messages.specs.ErrorTable.{error_of_trace}
use Rattle.bp_commands.specs.Commands.{Command, Pair}
use Rattle.bp_commands.specs.Programs.{HasNoCode}
use Rattle.bp_commands.specs.Traces.{migrates, on_trace, replays, shrinks, IsBegun, IsNoTrace, IsOfTrace, IsTraceOf, IsTraceReport, TextRule}
use Rattle.bp_commands.specs.declared.shows.Screen.{Screen}
use Rattle.bp_commands.specs.declared.trace_commands.TraceCommand.{TraceCommand}
use Rattle.bp_commands.specs.declared.trace_commands.TraceCommand.TheVariants.{Replay, Migrate, Shrink, Show}

-- the view of a history with these options, whose footer has its report
pub record IsViewText
    (o : ViewOptions) (file : List ℕ) (text : List ℕ) (t : Program) (s : SetupOf)
    (h : List Call) (written : List ℕ)
    : Type 0 where
  pub report : Report
  pub reported : IsReport s h report
  pub there : IsThere o.thread (threads s)
  pub declared : AreDeclared t (watched_names o.watch)
  pub is : IsView t text s h report o file written

-- the state after the first n attempts of a history, or after all if there are fewer
abbrev pub IsStateOf : ViewFormat → ℕ → TextRule
IsStateOf format n text t s h written = IsStateText format t text s (take n h) (length h) written

-- a line for each context of a history
abbrev pub AreContextsOf : ViewFormat → TextRule
AreContextsOf format text t s h written = AreContextLines format t text s h written

-- a line for each step of a history
abbrev pub AreStepsOf : TextRule
AreStepsOf text t s h written = written ≡ own_steps_text (own_steps text t s h)

-- only the attempts of one thread are to be shown, which the trace does not have
pub record HasNoThread (o : ViewOptions) (given : Pair) (f : Error) : Type 0 where
  pub program : Program
  pub setup : SetupOf
  pub history : List Call
  pub legal : IsTraceOf given.text given.input program setup history
  pub thread : ℕ
  pub asked : o.thread ≡ Some thread
  pub past : threads setup ≤ thread
  pub is : f ≡ NoThread thread

-- the trace has the thread that is asked for, and a watched name is not that of a variable
pub record HasNoVariable (o : ViewOptions) (given : Pair) (f : Error) : Type 0 where
  pub program : Program
  pub setup : SetupOf
  pub history : List Call
  pub legal : IsTraceOf given.text given.input program setup history
  pub there : IsThere o.thread (threads setup)
  pub number : ℕ
  pub undeclared : IsUndeclared program (watched_names o.watch) number
  pub is : f ≡ NoVariable number

-- the command writes a view of the history, each line as it is made, of a program in this file
abbrev pub shows : ViewOptions → (file : List ℕ) → Command Pair Report
shows o file = record {
  Writes = IsOfTrace (IsViewText o file);
  Reports = IsTraceReport (IsViewText o file);
  Refuses = λ given f.
      HasNoCode given.text f
      ⊎ (IsNoTrace given f ⊎ (HasNoThread o given f ⊎ HasNoVariable o given f));
  Spoils = IsBegun (IsViewText o file);
}

-- the command writes the state after n attempts of the history
abbrev pub states : ViewFormat → ℕ → Command Pair Report
states format n = on_trace (IsStateOf format n)

-- the command writes a line for each context of the history
abbrev pub lists_contexts : ViewFormat → Command Pair Report
lists_contexts format = on_trace (AreContextsOf format)

-- the command writes a line for each step of the history
abbrev pub lists_steps : Command Pair Report
lists_steps = on_trace AreStepsOf

-- The first of these that is asked for: the state after a number of attempts, the contexts, the
-- steps. If none is, the attempts.
abbrev pub shows_as
    : ViewOptions → (file : List ℕ) → (contexts steps : Bool) → Option ℕ
    → Command Pair Report
shows_as o file contexts steps (Some n) = states o.format n
shows_as o file true steps None = lists_contexts o.format
shows_as o file false true None = lists_steps
shows_as o file false false None = shows o file

-- the options of a view on this screen
abbrev pub on_screen : ViewOptions → Screen → ViewOptions
on_screen options screen =
    record options {
      has_colour = screen.has_colour;
      columns = screen.columns;
    }

-- the command of a task, on a trace that is accepted
abbrev pub shows_part : ShowTask → Screen → Command Pair Report
shows_part x screen =
    shows_as (on_screen x.options screen) x.program.now x.contexts x.steps x.at

-- `show --valid`: the view of the accepted attempts of a trace.

-- the number of attempts after which a trace is refused, and its error; None for an accepted trace
abbrev pub Refusal : Type 0
Refusal = Option (ℕ × Error)

-- the last line of the view of a trace that is refused after this number of attempts
abbrev pub refusal_text : ViewFormat → (calls : ℕ) → List ℕ
refusal_text Columns calls =
    concat (codes "the trace is refused after call " ∷ decimal calls ∷ codes "\n" ∷ [])
refusal_text Json calls =
    concat (codes "{\"kind\":\"refused\",\"calls\":" ∷ decimal calls ∷ codes "}\n" ∷ [])

abbrev pub last_line : ViewFormat → Refusal → List ℕ
last_line format None = []
last_line format (Some refusal) = refusal_text format refusal.0

-- the trace is one of a history of the program
pub record IsWholeTrace (given : Pair) : Type 0 where
  pub program : Program
  pub well_formed : IsWellFormedText given.text program
  pub trace : IsSomeTrace program given.input

-- the trace is refused for this error, and the part has that of its accepted attempts
pub record IsAcceptedPart (given part : Pair) (calls : ℕ) (f : Error) : Type 0 where
  pub program : Program
  pub well_formed : IsWellFormedText given.text program
  pub accepted : AcceptedTrace
  pub is : IsAcceptedTrace program given.input accepted
  pub part_is : part ≡ record { text = given.text; input = accepted.trace.items }
  pub calls_are : calls ≡ accepted.calls
  pub refused : f ≡ error_of_trace accepted.error

-- the part has the trace of the accepted attempts, which is the trace itself if that is accepted
abbrev pub IsPart : (given part : Pair) → Refusal → Type 0
IsPart given part None = (part ≡ given) × IsWholeTrace given
IsPart given part (Some refusal) = IsAcceptedPart given part refusal.0 refusal.1

-- this holds of that part
pub record OfPart (given : Pair) (Holds : Pair → Refusal → Type 0) : Type 0 where
  pub part : Pair
  pub refusal : Refusal
  pub is : IsPart given part refusal
  pub holds : Holds part refusal

-- no attempts can be accepted: the text has no head of a setup that the program accepts, or memory
-- was refused
pub record HasNoPart (given : Pair) (f : Error) : Type 0 where
  pub program : Program
  pub well_formed : IsWellFormedText given.text program
  pub cause : ReplayError
  pub why : IsReplayRefusal program given.input cause
  pub none : HasNoCalls cause
  pub is : f ≡ error_of_trace cause

module _ (format : ViewFormat) (command : Command Pair Report) where
  -- the command shows this of a trace
  abbrev pub IsShown : Pair → List ℕ → Type 0
  IsShown part shown =
      command.Writes part shown ⊎ ((report : Report) × command.Reports part shown report)

  -- its view of the accepted attempts, and the last line
  abbrev pub IsShownWithLine : (text : List ℕ) → Pair → Refusal → Type 0
  IsShownWithLine text part refusal =
      (shown : List ℕ) × IsShown part shown × (text ≡ shown ++ last_line format refusal)

  -- the accepted attempts were shown, with the last line, and then the trace is refused
  abbrev pub IsRefusedAfter : (text : List ℕ) → Error → Pair → Refusal → Type 0
  IsRefusedAfter text f part None = ⊥
  IsRefusedAfter text f part (Some refusal) =
      IsShownWithLine text part (Some refusal) × (f ≡ refusal.1)

  -- the command on the accepted attempts of a trace; for a refused one a last line says so
  abbrev pub on_valid_calls : Command Pair Report
  on_valid_calls = record {
    Writes = λ given text. OfPart given (IsShownWithLine text);
    Reports = λ given text report. OfPart given (λ part refusal.
        (refusal ≡ None) × command.Reports part text report);
    Refuses = λ given f.
        HasNoCode given.text f
        ⊎ (HasNoPart given f ⊎ OfPart given (λ part _. command.Refuses part f));
    Spoils = λ given text f. OfPart given (λ part refusal.
        command.Spoils part text f ⊎ IsRefusedAfter text f part refusal);
  }

-- a command on a trace, or on its accepted attempts
abbrev pub valid_if : (valid : Bool) → ViewFormat → Command Pair Report → Command Pair Report
valid_if true format command = on_valid_calls format command
valid_if false format command = command

-- the trace is shown as a task asks
abbrev pub shows_task : ShowTask → Screen → Command Pair Report
shows_task x screen = valid_if x.valid x.options.format (shows_part x screen)

-- the command for a trace
abbrev pub trace_command : TraceCommand → Command Pair Report
trace_command Replay = replays
trace_command Migrate = migrates
trace_command Shrink = shrinks
trace_command (Show asked) = shows_task asked.task.now asked.screen
