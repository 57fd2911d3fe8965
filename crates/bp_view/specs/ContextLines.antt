-- The contexts of a history: the shown part of each, as plain facts, and a line for each: its
-- thread, its first and its last attempt, its thread's places before and after it, and the globals
-- that it changed.
use Rattle.std.specs.Prelude.{◌≡◌, ◌-◌, ℕ, suc, List, [], ◌∷◌, ◌++◌, Option, None, Some, codes, decimal, length, map, ◌≤◌, slice_get, take, if◌then◌else◌, ◌==◌, MatchOption}
use Rattle.std.specs.List.{concat}
use Rattle.bp_syntax.specs.Ast.{Program}
use Rattle.bp_flat.specs.StandsFor.{places_of, starts_of, valuation_of}
use Rattle.bp_machine.specs.declared.calls.Call.{Call}
use Rattle.bp_machine.specs.declared.calls.Report.{Report}
use Rattle.bp_machine.specs.Histories.{IsLeastWithin, granted_threads, stack_of, configuration_after}
use Rattle.bp_machine.specs.Setups.{SetupOf}
use Rattle.bp_text.specs.declared.lines.Position.{Position}
use Rattle.bp_text.specs.Pieces.{at_left, at_right, key_text, list_text, spaces}
use Rattle.bp_trace.specs.declared.replays.Replayed.{Replayed}
use Rattle.bp_trace.specs.Replays.{IsReplayed}
use Rattle.bp_text.specs.Lines.{IsInParts}
use Rattle.bp_source.specs.SourceStatements.{AreStatements, place_text}
use Rattle.bp_source.specs.declared.options.ViewFormat.{ViewFormat}
use Rattle.bp_source.specs.declared.options.ViewFormat.TheVariants.{Columns, Json}
use Rattle.bp_view.specs.declared.view_contexts.Widths.{Widths}
use Rattle.bp_view.specs.Lines.{entries_text, extent, led, AreWidths}
use Rattle.bp_flat.specs.InstrEffects.{bits_of}
use Rattle.bp_flat.specs.Moves.{Configuration}
use Rattle.bp_machine.specs.declared.contexts.ContextCount.{ContextCount}
use Rattle.bp_machine.specs.Sessions.{last_thread, IsCountOf}
use Rattle.bp_machine.specs.Runs.{IsTop}
use Rattle.bp_view.specs.declared.call_facts.ContextFacts.{ContextFacts}
use Rattle.bp_view.specs.CallFacts.{next_in, IsNextOf, Next, entry_of, owned, Entry, changed, IsContext}
use Rattle.bp_view.specs.declared.spans.Span.{Span}
use Rattle.bp_view.specs.declared.spans.StandingPoint.{StandingPoint}

-- the attempt x, after k others, made a step in context n
pub record IsStepIn (n : ℕ) (h : List Call) (k : ℕ) (x : Call) : Type 0 where
  pub at : slice_get h k ≡ Some x
  pub context : IsContext (take k h) x (Some n)

-- All steps in context n are of thread i. The first is that of the attempt after `first` others,
-- and the last that of the attempt after `last` others.
pub record IsContextOf (n : ℕ) (h : List Call) (i first last : ℕ) : Type 0 where
  pub begins : (x : Call) × IsStepIn n h first x
  pub ends : (x : Call) × IsStepIn n h last x
  pub each : (k : ℕ) (x : Call)
      → IsStepIn n h k x
      → (x.thread ≡ i) × (first ≤ k) × (k ≤ last)

-- The shown facts of a context: its number, its thread, the numbers of its first and its last
-- attempt, its thread's next statement before the first and after the last, and its changes.
pub record ShownContext : Type 0 where
  pub number : ℕ
  pub thread : ℕ
  pub first : ℕ
  pub last : ℕ
  pub from : Next
  pub to : Next
  pub changes : List Entry

-- the facts of the value of src/
abbrev pub context_in : ContextFacts → ShownContext
context_in x =
    record {
      number = x.number;
      thread = x.thread;
      first = x.first;
      last = x.last;
      from = next_in x.from;
      to = next_in x.to;
      changes = map entry_of x.changes.now;
    }

-- the globals whose values differ before the attempt after `first` others and after the one after
-- `last` others
abbrev pub changes_within : Program → SetupOf → List Call → (first last : ℕ) → List Entry
changes_within t s h first last =
    let before = configuration_after t s (take first h) in
    let after = configuration_after t s (take (suc last) h) in
    owned None (changed before.globals after.globals)

-- The facts of context n of a history: its first and its last attempt, counted from 1; its thread's
-- next statement before the first and after the last; and the globals whose values there differ.
pub record AreContextFacts
    (t : Program) (text : List ℕ) (s : SetupOf) (h : List Call) (n : ℕ) (f : ShownContext)
    : Type 0 where
  pub number : f.number ≡ n
  pub first : ℕ
  pub last : ℕ
  pub context : IsContextOf n h f.thread first last
  pub first_is : f.first ≡ suc first
  pub last_is : f.last ≡ suc last
  pub from : IsNextOf text (stack_of (configuration_after t s (take first h)) f.thread) f.from
  pub to : IsNextOf text (stack_of (configuration_after t s (take (suc last) h)) f.thread) f.to
  pub changes : f.changes ≡ changes_within t s h first last

-- The contexts of a history, with the points at which each begins and ends.

-- the point has the top of thread i's stack in a configuration, and the globals
pub record IsStandingPoint (t : Program) (c : Configuration) (i : ℕ) (x : StandingPoint)
    : Type 0 where
  pub top : MatchOption x.top (stack_of c i ≡ []) (IsTop t c i)
  pub globals : c.globals ≡ valuation_of t.globals (bits_of x.globals)

-- the span, extended to a later step
abbrev pub joined : Span → (step : Span) → Span
joined x step = record {
  thread = x.thread;
  first = x.first;
  last = step.last;
  before = x.before;
  after = step.after;
}

-- the spans with one more step, which extends the last one if it is of the same thread
abbrev pub with_step : List Span → (step : Span) → List Span
with_step [] step = step ∷ []
with_step (x ∷ []) step =
    if x.thread == step.thread then joined x step ∷ [] else x ∷ step ∷ []
with_step (x ∷ y ∷ xs) step = x ∷ with_step (y ∷ xs) step

-- the number of contexts of these spans, and the thread of the last one
abbrev pub count_of : List Span → ContextCount
count_of xs = record { used = length xs; last = last_thread (map (λ x. x.thread) xs) }

module _ (t : Program) (s : SetupOf) (h : List Call) where
  -- the span is context n of the history
  pub record IsSpan (n : ℕ) (x : Span) : Type 0 where
    pub first : ℕ
    pub last : ℕ
    pub context : IsContextOf n h x.thread first last
    pub first_is : x.first ≡ suc first
    pub last_is : x.last ≡ suc last
    pub before : IsStandingPoint t (configuration_after t s (take first h)) x.thread x.before
    pub after : IsStandingPoint t (configuration_after t s (take (suc last) h)) x.thread x.after

  -- the spans are the contexts from context n on
  abbrev pub AreSpansFrom : ℕ → List Span → Type 0
  AreSpansFrom n [] = Unit {0}
  AreSpansFrom n (x ∷ xs) = IsSpan n x × AreSpansFrom (suc n) xs

  -- the spans are all contexts
  pub record AreSpans (xs : List Span) : Type 0 where
    pub count : IsCountOf (count_of xs) (granted_threads h)
    pub each : AreSpansFrom 1 xs

-- a context for people
abbrev pub context_line : Widths → ShownContext → List ℕ
context_line w f =
    concat (
    codes "context " ∷ at_right w.context (decimal f.number)
    ∷ codes " thread " ∷ at_right w.thread (decimal f.thread)
    ∷ codes " calls " ∷ at_right w.number (decimal f.first)
    ∷ codes " to " ∷ at_right w.number (decimal f.last)
    ∷ codes " from " ∷ at_left w.place f.from.place ∷ codes " to " ∷ f.to.place
    ∷ led (spaces (w.place - length f.to.place)) (entries_text Columns f.changes)
    ∷ codes "\n" ∷ [])

-- a place as an object of JSON, or null
abbrev pub position_or_null : Option Position → List ℕ
position_or_null None = codes "null"
position_or_null (Some p) =
    concat (
    codes "{\"line\":" ∷ decimal p.line
    ∷ key_text (codes "column") ∷ decimal p.column
    ∷ codes "}" ∷ [])

-- a context as an object of JSON
abbrev pub context_object : ShownContext → List ℕ
context_object f =
    concat (
    codes "{\"kind\":\"context\""
    ∷ key_text (codes "context") ∷ decimal f.number
    ∷ key_text (codes "thread") ∷ decimal f.thread
    ∷ key_text (codes "first") ∷ decimal f.first
    ∷ key_text (codes "last") ∷ decimal f.last
    ∷ key_text (codes "from") ∷ position_or_null f.from.position
    ∷ key_text (codes "to") ∷ position_or_null f.to.position
    ∷ key_text (codes "changes") ∷ list_text (entries_text Json f.changes)
    ∷ codes "}\n" ∷ [])

-- a context in a view of this format
abbrev pub context_text : ViewFormat → Widths → ShownContext → List ℕ
context_text Columns w f = context_line w f
context_text Json w f = context_object f

-- the text before the contexts: in JSON the numbers of attempts and contexts of the history
abbrev pub contexts_head : ViewFormat → (calls contexts : ℕ) → List ℕ
contexts_head Columns calls contexts = []
contexts_head Json calls contexts =
    concat (
    codes "{\"kind\":\"contexts\",\"version\":1"
    ∷ key_text (codes "calls") ∷ decimal calls
    ∷ key_text (codes "contexts") ∷ decimal contexts
    ∷ codes "}\n" ∷ [])

-- Of a program and its text; after the history h in a setup.
module _ (format : ViewFormat) (t : Program) (text : List ℕ) (s : SetupOf) (h : List Call) where
  -- the line of context n
  pub record IsContextLine (w : Widths) (n : ℕ) (line : List ℕ) : Type 0 where
    pub facts : ShownContext
    pub facts_are : AreContextFacts t text s h n facts
    pub is : line ≡ context_text format w facts

  -- a line for each context of the history
  pub record AreContextLines (said : List ℕ) : Type 0 where
    pub count : ℕ
    pub count_is : IsLeastWithin count (granted_threads h)
    pub widths : Widths
    pub statements : List (List ℕ)
    pub statements_are : AreStatements text (places_of t.procedures) statements
    pub widths_are :
        let places = map (place_text text) (starts_of t) in
        AreWidths s (extent (length h) places statements (length t.procedures) None) widths
    pub lines : List ℕ
    pub lines_are : IsInParts (λ k line. IsContextLine widths (suc k) line) count lines
    pub is : said ≡ contexts_head format (length h) count ++ lines

-- the contexts of the history of a trace of the program, and the report of the history
pub record AreContextsOfTrace
    (format : ViewFormat) (t : Program) (text trace : List ℕ) (said : List ℕ) (report : Report)
    : Type 0 where
  pub replayed : Replayed
  pub is : IsReplayed t trace replayed
  pub lines_are : AreContextLines format t text replayed.setup replayed.history.items said
  pub report_is : report ≡ replayed.report
