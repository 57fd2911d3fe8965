-- The view of a history of a program: a line for each of its attempts that is shown.
use Rattle.std.specs.Prelude.{◌≡◌, ℕ, Bool, true, false, List, [], ◌∷◌, ◌++◌, Option, None, Some, codes, decimal, flat_map, length, ◌≤◌, map, ◌<◌, ◌&&◌, suc, nat_lt, take, slice_get}
use Rattle.std.specs.List.{concat}
use Rattle.bp_text.specs.Pieces.{key_text, list_text}
use Rattle.bp_text.specs.Lines.{IsInParts}
use Rattle.std.specs.Io.KnownBytes.{Appends}
use Rattle.bp_text.specs.Writing.{IsBegun, IsCutShort, IsWritten}
use Rattle.bp_syntax.specs.Ast.{Program}
use Rattle.bp_flat.specs.Moves.{Configuration}
use Rattle.bp_flat.specs.Flat.{Flat}
use Rattle.bp_flat.specs.StandsFor.{places_of, StandsFor, starts_of}
use Rattle.bp_machine.specs.declared.calls.Call.{Call}
use Rattle.bp_machine.specs.declared.calls.Report.{Report}
use Rattle.bp_machine.specs.Setups.{SetupOf, threads}
use Rattle.bp_machine.specs.Histories.{stack_of, configuration_after, granted_threads, outcome_of}
use Rattle.bp_machine.specs.Sessions.{last_thread, Stands}
use Rattle.bp_machine.specs.Runs.{values_printed}
use Rattle.bp_trace.specs.declared.limits.TheConstants.{MAX_TRACE}
use Rattle.bp_trace.specs.Replays.{IsReplayed, IsPlayable, IsReplayRefusal}
use Rattle.bp_trace.specs.declared.replays.Replayed.{Replayed}
use Rattle.bp_source.specs.SourceStatements.{AreSourceStatements, place_text, AreStatements}
use Rattle.bp_source.specs.declared.options.ViewFormat.{ViewFormat}
use Rattle.bp_source.specs.declared.options.ViewFormat.TheVariants.{Columns, Json}
use Rattle.bp_source.specs.declared.options.ViewOptions.{ViewOptions}
use Rattle.bp_view.specs.FooterFacts.{AreFooterFacts, ShownCondition, ShownFooter}
use Rattle.bp_view.specs.declared.filters.CallFilter.{CallFilter}
use Rattle.bp_view.specs.CallFacts.{next_at, AreProgramFacts, changes_by, printed_by, AreCallFacts, ShownCall}
use Rattle.bp_view.specs.Filters.{watched_names, calls_of, is_asked, is_seen, AreDeclared, IsUndeclared}
use Rattle.bp_view.specs.declared.errors.ViewError.{ViewError}
use Rattle.bp_view.specs.declared.errors.ViewError.TheVariants.{Memory, NoThread, NoVariable, Replay, Write}
use Rattle.bp_view.specs.States.{condition_object, condition_text, IsStateText}
use Rattle.bp_view.specs.declared.view_contexts.ShownTrace.{ShownTrace}
use Rattle.bp_view.specs.declared.view_contexts.ViewContext.{ViewContext}
use Rattle.bp_view.specs.declared.view_contexts.Widths.{Widths}
use Rattle.bp_view.specs.declared.writers.ViewWriter.{ViewWriter}
use Rattle.bp_view.specs.SetupLines.{view_head, AreHeaded}
use Rattle.bp_view.specs.Lines.{call_object, column_line, extent, extent_of, AreReady}
use Rattle.bp_machine.specs.declared.tops.Top.{Top}
use Rattle.bp_source.specs.declared.source_statements.SourceStatement.{SourceStatement}
use Rattle.bp_view.specs.declared.program_facts.ProgramFacts.{ProgramFacts}
use Rattle.bp_view.specs.declared.statement_members.StatementMembers.{StatementMembers}
use Rattle.bp_view.specs.ContextLines.{AreContextLines}

-- The text of the footer of a view, from its facts: the report of the history.

-- the thread whose assertion failed, and the text of the assertion, which is in this file
abbrev pub failure_text : ViewFormat → (file : List ℕ) → ShownCondition → List ℕ
failure_text Columns file x =
    concat (
    codes "an assertion of thread " ∷ decimal x.thread ∷ codes " failed"
    ∷ condition_text Columns file x ∷ [])
failure_text Json file x = condition_object x

-- the outcome if no assertion failed, and the threads are deadlocked or not
abbrev pub clean_text : ViewFormat → (deadlocked : Bool) → List ℕ
clean_text Columns true = codes "deadlock"
clean_text Columns false = codes "no assertion failed"
clean_text Json deadlocked = codes "null"

abbrev pub outcome_text
    : ViewFormat → (file : List ℕ) → (deadlocked : Bool)
    → (failure : Option ShownCondition) → List ℕ
outcome_text format file deadlocked None = clean_text format deadlocked
outcome_text format file deadlocked (Some x) = failure_text format file x

-- a thread that waits, after a line feed or a comma, and the text of its assumption
abbrev pub wait_text : ViewFormat → (file : List ℕ) → ShownCondition → List ℕ
wait_text Columns file x =
    concat (
    codes "\nthread " ∷ decimal x.thread ∷ codes " waits"
    ∷ condition_text Columns file x ∷ [])
wait_text Json file x = codes "," ++ condition_object x

abbrev pub waits_text : ViewFormat → (file : List ℕ) → List ShownCondition → List ℕ
waits_text format file xs = flat_map (wait_text format file) xs

-- the attempts of a history, the contexts of its steps, and the threads that may continue; this
-- text of its outcome, and this one of the threads that wait
abbrev pub footer_in_format : ViewFormat → Report → (outcome waits : List ℕ) → List ℕ
footer_in_format Columns r outcome waits =
    concat (
    codes "\n" ∷ decimal r.calls
    ∷ codes " calls, contexts " ∷ decimal r.contexts
    ∷ codes ", open threads " ∷ decimal r.left_live
    ∷ codes "\n" ∷ outcome ∷ waits ∷ codes "\n" ∷ [])
footer_in_format Json r outcome waits =
    concat (
    codes "{\"kind\":\"end\""
    ∷ key_text (codes "calls") ∷ decimal r.calls
    ∷ key_text (codes "contexts") ∷ decimal r.contexts
    ∷ key_text (codes "open") ∷ decimal r.left_live
    ∷ key_text (codes "failure") ∷ outcome
    ∷ key_text (codes "deadlock") ∷ list_text waits
    ∷ codes "}\n" ∷ [])

abbrev pub footer_text : ViewFormat → (file : List ℕ) → ShownFooter → List ℕ
footer_text format file x =
    let outcome = outcome_text format file x.deadlocked x.failure in
    footer_in_format format x.report outcome (waits_text format file x.waits)

-- of a program and its text, in a setup: the footer at the end of the history h, with its report
pub record IsFooter
    (format : ViewFormat) (file : List ℕ)
    (t : Program) (text : List ℕ) (s : SetupOf) (h : List Call) (r : Report) (footer : List ℕ)
    : Type 0 where
  pub facts : ShownFooter
  pub facts_are : AreFooterFacts t text s h r facts
  pub is : footer ≡ footer_text format file facts

-- The end of a view: its footer, and the state after the last attempt if that is asked for.

-- a state after a footer: for people there is an empty line between them
abbrev pub after_footer : ViewFormat → List ℕ → List ℕ
after_footer Columns state = codes "\n" ++ state
after_footer Json state = state

-- Of a program and its text, in a setup; at the end of the history h.
module _ (format : ViewFormat) (t : Program) (text : List ℕ) (s : SetupOf) (h : List Call) where
  -- the state after the last attempt if it is asked for, else nothing
  abbrev pub IsStateIf : Bool → List ℕ → Type 0
  IsStateIf true said =
      (state : List ℕ)
      × (said ≡ after_footer format state)
      × IsStateText format t text s h (length h) state
  IsStateIf false said = said ≡ []

-- the footer with the report of a history, and, if asked for, the state after its last attempt
pub record IsEnd
    (o : ViewOptions) (file : List ℕ)
    (t : Program) (text : List ℕ) (s : SetupOf) (h : List Call) (r : Report) (end : List ℕ)
    : Type 0 where
  pub footer : List ℕ
  pub footer_is : IsFooter o.format file t text s h r footer
  pub state : List ℕ
  pub state_is : IsStateIf o.format t text s h o.has_state state
  pub is : end ≡ footer ++ state

-- The attempts that a view shows, by its options.

-- equal waits have one line: objects are never folded
abbrev pub folds_in : ViewFormat → Bool → Bool
folds_in Columns fold = fold
folds_in Json fold = false

-- the attempts that are asked for
abbrev pub filter_of : ViewOptions → CallFilter
filter_of o =
    record {
      thread = o.thread;
      last = o.last;
      from = o.from;
      to = o.to;
      folds = folds_in o.format o.fold;
    }

-- A device: a trace that was replayed, with the source statements of its program.

-- the source statements are those of the program p, and the text of the trace is one of t
pub record IsShownTrace (t : Program) (text trace : List ℕ) (x : ShownTrace) : Type 0 where
  pub statements : AreSourceStatements text t x.statements.items
  pub is : IsReplayed t trace x.replayed
  pub short : length trace ≤ MAX_TRACE

-- A device: the context in which a view is made.

-- the context has the facts of the program and its text that the lines show
pub record IsViewContextOf (t : Program) (text : List ℕ) (x : ViewContext) : Type 0 where
  pub program : AreProgramFacts t text x.program
  pub filter : x.filter ≡ filter_of x.options
  pub names : map (λ n. n.now) x.names.now ≡ watched_names x.options.watch

-- if only the attempts of one thread are to be shown, it is one of n threads
abbrev pub IsThere : Option ℕ → (n : ℕ) → Type 0
IsThere None n = Unit {0}
IsThere (Some i) n = i < n

-- the line of an attempt in this format, if it stands for this number of attempts: columns show no
-- printed values, and objects no attempts
abbrev pub line_in
    : ViewFormat → (has_colour : Bool) → Widths → ShownCall → (calls : ℕ)
    → (printed : Option (List Bool)) → List ℕ
line_in Columns has_colour w f calls printed = column_line has_colour w f calls
line_in Json has_colour w f calls printed = call_object f printed

-- Of a program and its text, in a setup; the columns have these widths, and this is the whole
-- history.
module _
    (t : Program) (text : List ℕ) (s : SetupOf) (o : ViewOptions) (w : Widths)
    (whole : List Call) where
  -- the line of the attempt x after the history h
  pub record IsViewLine (h : List Call) (x : Call) (line : List ℕ) : Type 0 where
    pub facts : ShownCall
    pub facts_are : AreCallFacts t text s h x facts
    pub is :
        let calls = calls_of (filter_of o) whole h x in
        let printed = printed_by (configuration_after t s h) x in
        line ≡ line_in o.format o.has_colour w facts calls printed

  -- that line if it is shown, else nothing
  abbrev pub IsViewLineIf : Bool → List Call → Call → List ℕ → Type 0
  IsViewLineIf true h x line = IsViewLine h x line
  IsViewLineIf false h x line = line ≡ []

  -- that attempt has a line: it is asked for, changed a watched variable, and a line stands for it
  abbrev pub has_line : List Call → Call → Bool
  has_line h x =
      is_asked (filter_of o) (length whole) (suc (length h)) x.thread
      && (is_seen (watched_names o.watch) (changes_by t s h x)
      && nat_lt 0 (calls_of (filter_of o) whole h x))

  abbrev pub IsShownLine : List Call → Call → List ℕ → Type 0
  IsShownLine h x line = IsViewLineIf (has_line h x) h x line

  -- the lines of the first n attempts, one after the other: line k, from 0, is that of the attempt
  -- after k others
  abbrev pub AreLines : (n : ℕ) → (lines : List ℕ) → Type 0
  AreLines n lines =
      IsInParts
      (λ k line. (x : Call) → slice_get whole k ≡ Some x → IsShownLine (take k whole) x line)
      n
      lines

-- the head, a line for each attempt of the history that is shown, and the end
pub record IsView
    (t : Program) (text : List ℕ) (s : SetupOf) (h : List Call) (r : Report) (o : ViewOptions)
    (file : List ℕ) (view : List ℕ)
    : Type 0 where
  pub widths : Widths
  pub statements : List (List ℕ)
  pub statements_are : AreStatements text (places_of t.procedures) statements
  pub widths_are :
      let places = map (place_text text) (starts_of t) in
      let e = extent (length h) places statements (length t.procedures) o.columns in
      AreHeaded s e widths
  pub lines : List ℕ
  pub end : List ℕ
  pub is : view ≡ view_head o t.globals s widths ++ lines ++ end
  pub end_is : IsEnd o file t text s h r end
  pub lines_are : AreLines t text s o widths h (length h) lines

-- the view of the history of a trace of the program, and its report
pub record IsViewOfTrace
    (t : Program) (text trace : List ℕ) (o : ViewOptions) (file : List ℕ)
    (view : List ℕ) (report : Report)
    : Type 0 where
  pub replayed : Replayed
  pub is : IsReplayed t trace replayed
  pub view_is : IsView t text replayed.setup replayed.history.items report o file view
  pub report_is : report ≡ replayed.report
  pub there : IsThere o.thread (threads replayed.setup)
  pub declared : AreDeclared t (watched_names o.watch)

-- why a text of this kind was not written whole; the bytes of the writer are those before and after
-- it
abbrev pub IsStopped : (List ℕ → Type 0) → (old new : Option (List ℕ)) → ViewError → Type 0
IsStopped IsText old new Memory = IsBegun IsText old new
IsStopped IsText old new Write = IsCutShort IsText old new
IsStopped IsText old new f = ⊥

-- A view of a trace was to be written; the bytes of the writer are those before and after it.
module _
    (t : Program) (text trace : List ℕ) (o : ViewOptions) (file : List ℕ)
    (old new : Option (List ℕ)) where
  -- a view with this report was written
  abbrev pub IsViewed : Report → Type 0
  IsViewed report = IsWritten (λ view. IsViewOfTrace t text trace o file view report) old new

  -- only the attempts of thread i were to be shown, which the trace does not have
  pub record HasNoThread (i : ℕ) : Type 0 where
    pub replayed : Replayed
    pub is : IsReplayed t trace replayed
    pub asked : o.thread ≡ Some i
    pub past : threads replayed.setup ≤ i

  -- the trace has the thread that is asked for, but no variable has name n of the watched names
  pub record HasNoVariable (n : ℕ) : Type 0 where
    pub replayed : Replayed
    pub is : IsReplayed t trace replayed
    pub there : IsThere o.thread (threads replayed.setup)
    pub undeclared : IsUndeclared t (watched_names o.watch) n

  -- the trace is refused, or else the thread, or else a name, and nothing is written; or the view
  -- was not written whole
  abbrev pub IsViewRefusal : ViewError → Type 0
  IsViewRefusal (Replay f) = (new ≡ old) × IsReplayRefusal t trace f
  IsViewRefusal (NoThread i) = (new ≡ old) × HasNoThread i
  IsViewRefusal (NoVariable n) = (new ≡ old) × HasNoVariable n
  IsViewRefusal f =
      IsStopped (λ view. (report : Report) × IsViewOfTrace t text trace o file view report)
      old new f

-- A device: only thread i is to be shown, and it is none of n threads.
abbrev pub IsMissing : Option ℕ → (n : ℕ) → ViewError → Type 0
IsMissing only n f = (i : ℕ) × (only ≡ Some i) × (n ≤ i) × (f ≡ NoThread i)

-- A device: the printed values that a view of this format shows of an attempt.
abbrev pub printed_in : ViewFormat → Configuration → Call → Option (List Bool)
printed_in Columns c x = None
printed_in Json c x = printed_by c x

-- A device: those that it shows of the next step of thread i.
abbrev pub next_print_in : ViewFormat → Configuration → ℕ → Option (List Bool)
next_print_in Columns c i = None
next_print_in Json c i = values_printed c.globals (stack_of c i)

-- A device: the writer's session stands after a history of the program, and the writer has the
-- thread of its last step and its length.
pub record HasMade (t : Program) (h : List Call) (w : ViewWriter) : Type 0 where
  pub program : w.session.code.tree ≡ t
  pub stands : Stands t w.session h
  pub last : w.last ≡ last_thread (granted_threads h)
  pub made : w.made ≡ length h

-- A device: these are the members of each statement of a program, if a view has objects.
pub record AreMembers (p : ProgramFacts) (members : List StatementMembers) : Type 0 where
  pub each : (x : Top) (s : SourceStatement) (m : StatementMembers)
      → slice_get p.statements.now x.number ≡ Some s
      → slice_get members x.number ≡ Some m
      → AreReady (next_at p.procs.now s x) m.front.items m.text.items
  pub all : length members ≡ length p.statements.now

abbrev pub HaveMembers : ViewFormat → ProgramFacts → List StatementMembers → Type 0
HaveMembers Columns p members = Unit {0}
HaveMembers Json p members = AreMembers p members

-- A device: the first part of a text was appended, and this rest is left.
pub record IsSent (old new : Option (List ℕ)) (text rest : List ℕ) : Type 0 where
  pub sent : List ℕ
  pub grown : Appends old new sent
  pub is : text ≡ sent ++ rest

-- A device: a view can be made in this context, with this report: a code stands for the program,
-- and the history may be played.
pub record IsViewable
    (c : Flat) (t : Program) (text : List ℕ) (s : SetupOf) (r : Report) (x : ViewContext)
    : Type 0 where
  pub code : StandsFor c t
  pub known : IsViewContextOf t text x
  pub widths : AreHeaded s (extent_of x) x.widths
  pub playable : IsPlayable t s x.history.now
  pub outcome : r.outcome ≡ outcome_of x.history.now

-- Laws of views.

-- of a program and its text, in a setup, a history has at most one view with this report
abbrev pub OneView : Type 0
OneView =
    (t : Program) (text : List ℕ) (s : SetupOf) (h : List Call) (r : Report) (o : ViewOptions)
    (file : List ℕ) (v w : List ℕ)
    → IsView t text s h r o file v
    → IsView t text s h r o file w
    → v ≡ w

-- there is at most one state within this number of attempts
abbrev pub OneState : Type 0
OneState =
    (format : ViewFormat) (t : Program) (text : List ℕ) (s : SetupOf) (h : List Call) (count : ℕ)
    (v w : List ℕ)
    → IsStateText format t text s h count v
    → IsStateText format t text s h count w
    → v ≡ w

-- there is at most one list of its contexts
abbrev pub OneListOfContexts : Type 0
OneListOfContexts =
    (format : ViewFormat) (t : Program) (text : List ℕ) (s : SetupOf) (h : List Call)
    (v w : List ℕ)
    → AreContextLines format t text s h v
    → AreContextLines format t text s h w
    → v ≡ w
