-- The text of a state, from its facts, and of the conditions and frames in it.
use Rattle.std.specs.Prelude.{ℕ, List, [], ◌∷◌, codes, decimal, if◌then◌else◌, ◌==◌, Some, flat_map, ◌≡◌, Option, None, length, take}
use Rattle.std.specs.List.{concat}
use Rattle.bp_text.specs.declared.lines.Position.{Position}
use Rattle.bp_text.specs.Pieces.{string_text, displayed, key_text, list_text, number_or_null}
use Rattle.bp_syntax.specs.Ast.{Program}
use Rattle.bp_machine.specs.declared.calls.Call.{Call}
use Rattle.bp_machine.specs.declared.calls.Outcome.{Outcome}
use Rattle.bp_machine.specs.declared.calls.Outcome.TheVariants.{Clean, Failed}
use Rattle.bp_machine.specs.declared.calls.Report.{Report}
use Rattle.bp_machine.specs.Setups.{SetupOf}
use Rattle.bp_trace.specs.declared.replays.Replayed.{Replayed}
use Rattle.bp_trace.specs.Replays.{IsReplayed}
use Rattle.bp_source.specs.Listings.{column_of, line_of}
use Rattle.bp_source.specs.declared.options.ViewFormat.{ViewFormat}
use Rattle.bp_source.specs.declared.options.ViewFormat.TheVariants.{Columns, Json}
use Rattle.bp_view.specs.FooterFacts.{ShownCondition}
use Rattle.bp_view.specs.StateFacts.{ShownFrame, AreStateFacts, ShownState, ShownThread}
use Rattle.bp_view.specs.declared.state_facts.Status.{Status}
use Rattle.bp_view.specs.declared.state_facts.Status.TheVariants as status
use Rattle.bp_view.specs.Lines.{entries_text, led, variables_text}
use Rattle.bp_view.specs.SetupLines.{globals_line}

-- The text of a condition, which is an assertion or an assumption, from its facts.

-- the place of a statement in a file, its text, and the line of its values
abbrev pub condition_lines : (file : List ℕ) → Position → (statement values : List ℕ) → List ℕ
condition_lines file position statement values =
    concat (
    codes " at " ∷ displayed file
    ∷ codes ":" ∷ decimal position.line
    ∷ codes ":" ∷ decimal position.column
    ∷ codes ": " ∷ statement
    ∷ led (codes "\nvalues") values ∷ [])

-- a condition as the members of an object
abbrev pub condition_members : Position → (statement values : List ℕ) → List ℕ
condition_members position statement values =
    concat (
    key_text (codes "line") ∷ decimal position.line
    ∷ key_text (codes "column") ∷ decimal position.column
    ∷ key_text (codes "statement") ∷ string_text statement
    ∷ key_text (codes "values") ∷ list_text values
    ∷ [])

-- the text of a condition in a view of this format; for people its place is in a file
abbrev pub condition_text : ViewFormat → (file : List ℕ) → ShownCondition → List ℕ
condition_text Columns file x =
    condition_lines file x.position x.text (entries_text Columns x.values)
condition_text Json file x = condition_members x.position x.text (entries_text Json x.values)

-- the object of the thread that is at it, with the members of the condition
abbrev pub condition_object : ShownCondition → List ℕ
condition_object x =
    concat (
    codes "{\"thread\":" ∷ decimal x.thread ∷ condition_text Json [] x ∷ codes "}" ∷ [])

-- The text of a frame of a stack, from its facts.

-- the text before the procedure of a frame below n others: those below the top continue after
-- returns
abbrev pub lead : ℕ → List ℕ
lead n = if n == 0 then codes "in " else codes "then in "

-- the values of the variables of a frame
abbrev pub locals_text : ViewFormat → ShownFrame → List ℕ
locals_text format x = variables_text format (Some x.procedure) x.locals

-- a frame for people: its procedure, the place and the text of its next statement, and the line of
-- its values
abbrev pub frame_lines : ShownFrame → (values : List ℕ) → List ℕ
frame_lines x values =
    concat (
    lead x.above ∷ x.procedure.name.text
    ∷ codes " at " ∷ x.place
    ∷ codes ": " ∷ x.text
    ∷ led (codes "\nvalues") values
    ∷ codes "\n" ∷ [])

-- a frame as an object of JSON after a comma
abbrev pub frame_object : ShownFrame → (values : List ℕ) → List ℕ
frame_object x values =
    concat (
    codes ",{\"procedure\":" ∷ string_text x.procedure.name.text
    ∷ key_text (codes "line") ∷ number_or_null (line_of x.position)
    ∷ key_text (codes "column") ∷ number_or_null (column_of x.position)
    ∷ key_text (codes "statement") ∷ string_text x.text
    ∷ key_text (codes "locals") ∷ list_text values
    ∷ codes "}" ∷ [])

abbrev pub frame_text : ViewFormat → ShownFrame → List ℕ
frame_text Columns x = frame_lines x (locals_text Columns x)
frame_text Json x = frame_object x (locals_text Json x)

abbrev pub frames_text : ViewFormat → List ShownFrame → List ℕ
frames_text format xs = flat_map (frame_text format) xs

-- The text of a state, from its facts: the values of the globals, and the status of each thread.

-- the status of a thread, for people
abbrev pub status_text : Status → List ℕ
status_text status.Finished = codes " is finished"
status_text status.Failed = codes " failed"
status_text status.OutOfContexts = codes " is out of contexts"
status_text status.OutOfCalls = codes " is out of calls"
status_text status.FullStack = codes " has a full stack"
status_text status.Stopped = codes " is stopped"
status_text status.Waiting = codes " waits"
status_text status.Open = codes " goes on"

-- the status of a thread in JSON
abbrev pub status_name : Status → List ℕ
status_name status.Finished = codes "finished"
status_name status.Failed = codes "failed"
status_name status.OutOfContexts = codes "out_of_contexts"
status_name status.OutOfCalls = codes "out_of_calls"
status_name status.FullStack = codes "stack_full"
status_name status.Stopped = codes "stopped"
status_name status.Waiting = codes "waiting"
status_name status.Open = codes "open"

-- a thread for people, after an empty line, and the frames of its stack
abbrev pub thread_lines : ShownThread → (frames : List ℕ) → List ℕ
thread_lines x frames =
    concat (
    codes "\nthread " ∷ decimal x.thread
    ∷ status_text x.status ∷ codes "\n" ∷ frames ∷ [])

-- a thread as an object of JSON after a comma
abbrev pub thread_object : ShownThread → (frames : List ℕ) → List ℕ
thread_object x frames =
    concat (
    codes ",{\"thread\":" ∷ decimal x.thread
    ∷ key_text (codes "standing") ∷ string_text (status_name x.status)
    ∷ key_text (codes "frames") ∷ list_text frames
    ∷ codes "}" ∷ [])

abbrev pub thread_text : ViewFormat → ShownThread → List ℕ
thread_text Columns x = thread_lines x (frames_text Columns x.frames)
thread_text Json x = thread_object x (frames_text Json x.frames)

abbrev pub threads_text : ViewFormat → List ShownThread → List ℕ
threads_text format xs = flat_map (thread_text format) xs

-- a line for a thread's failed assertion, or no line if none failed
abbrev pub failed_line : Outcome → List ℕ
failed_line Clean = []
failed_line (Failed i) =
    concat (codes "an assertion of thread " ∷ decimal i ∷ codes " failed\n" ∷ [])

-- a state for people
abbrev pub state_lines : ShownState → (threads : List ℕ) → List ℕ
state_lines x threads =
    concat (
    codes "after call " ∷ decimal x.number
    ∷ codes " of " ∷ decimal x.count ∷ codes "\n"
    ∷ failed_line x.outcome
    ∷ globals_line x.globals
    ∷ threads ∷ [])

-- the thread whose assertion failed
abbrev pub failed_thread : Outcome → Option ℕ
failed_thread Clean = None
failed_thread (Failed i) = Some i

-- the members of a state that have one value each, and the key of the globals
abbrev pub state_members : ShownState → List ℕ
state_members x =
    concat (
    codes "{\"kind\":\"state\",\"version\":2"
    ∷ key_text (codes "call") ∷ decimal x.number
    ∷ key_text (codes "calls") ∷ decimal x.count
    ∷ key_text (codes "failed") ∷ number_or_null (failed_thread x.outcome)
    ∷ key_text (codes "globals") ∷ [])

-- a state as an object of JSON
abbrev pub state_object : ShownState → (threads : List ℕ) → List ℕ
state_object x threads =
    concat (
    state_members x
    ∷ list_text (variables_text Json None x.globals)
    ∷ key_text (codes "threads") ∷ list_text threads
    ∷ codes "}\n" ∷ [])

abbrev pub state_text : ViewFormat → ShownState → List ℕ
state_text Columns x = state_lines x (threads_text Columns x.threads)
state_text Json x = state_object x (threads_text Json x.threads)

-- Of a program and its text, in a setup: the state after the attempts h, which begin a history of
-- `count` attempts.
pub record IsStateText
    (format : ViewFormat)
    (t : Program) (text : List ℕ) (s : SetupOf) (h : List Call) (count : ℕ) (said : List ℕ)
    : Type 0 where
  pub facts : ShownState
  pub facts_are : AreStateFacts t text s h count facts
  pub is : said ≡ state_text format facts

-- the state after the first n attempts of the history of a trace of the program, or after all if
-- there are fewer, and the report of the whole history
pub record IsStateOfTrace
    (format : ViewFormat) (n : ℕ) (t : Program) (text trace : List ℕ) (said : List ℕ)
    (report : Report)
    : Type 0 where
  pub replayed : Replayed
  pub is : IsReplayed t trace replayed
  pub state_is :
      let h = replayed.history.items in
      IsStateText format t text replayed.setup (take n h) (length h) said
  pub report_is : report ≡ replayed.report
