-- A text as a replay sees it: the trace of a legal history, or one that is refused.
use Rattle.std.specs.Prelude.{List, ◌≡◌, ◌≢◌, ◌⊎◌, ◌<◌, ◌≤◌, ℕ, ◌+◌, true, [], ◌∷◌, ◌++◌, Option, None, Some, length, map, codes, slice_index}
use Rattle.std.specs.Str.Parse.{AllDigits}
use Rattle.std.specs.List.{AllByRecursion}
use Rattle.bp_text.specs.Writing.{AppendsAll, AppendsPart}
use Rattle.bp_syntax.specs.Ast.{Program}
use Rattle.bp_machine.specs.declared.calls.Call.{Call}
use Rattle.bp_machine.specs.declared.calls.AskError.{AskError}
use Rattle.bp_machine.specs.declared.calls.AskError.TheVariants.{Memory}
use Rattle.bp_machine.specs.Sessions.{IsNextCall, IsAskRefusal, given_bit, last_thread, Stands}
use Rattle.bp_machine.specs.Setups.{SetupOf, threads, setup_error}
use Rattle.bp_machine.specs.declared.setup_errors.SetupError.{SetupError}
use Rattle.bp_machine.specs.Histories.{is_terminated, live_threads, IsLegal, HasSeededBits, IsReport}
use Rattle.bp_machine.specs.Runs.{PrintedRow, printed_rows}
use Rattle.bp_machine.specs.declared.calls.Report.{Report}
use Rattle.bp_trace.specs.declared.limits.TheConstants.{MAX_TRACE}
use Rattle.bp_trace.specs.declared.errors.EndCounts.{EndCounts}
use Rattle.bp_trace.specs.declared.errors.Due.{Due}
use Rattle.bp_trace.specs.declared.errors.ReplayError.{ReplayError}
use Rattle.bp_trace.specs.declared.errors.ReplayError.TheVariants as error
use Rattle.bp_trace.specs.declared.traces.Version.{Version}
use Rattle.bp_trace.specs.declared.traces.Version.TheVariants.{One, Two}
use Rattle.bp_text.specs.Formats.{BreaksAt}
use Rattle.bp_trace.specs.HeadFormat.{head}
use Rattle.bp_trace.specs.TraceText.{HasHead, Piece, pieces_of, calls_of_piece, head_lines, head_text, call_line, piece_line, calls_text, end_line, text_of, trace_text_2}
use Rattle.bp_trace.specs.declared.replays.AcceptedTrace.{AcceptedTrace}
use Rattle.bp_trace.specs.declared.judgements.Printed.{Printed}
use Rattle.bp_trace.specs.declared.replays.Replayed.{Replayed}
use Rattle.bp_trace.specs.declared.replays.Watched.{Watched}
use Rattle.bp_trace.specs.declared.errors.MigrateError.{MigrateError}
use Rattle.bp_trace.specs.declared.errors.MigrateError.TheVariants as refusal

-- The machine's own attempt for a recorded one.

-- After the history h an attempt x was recorded: of its thread, with the bit of the seed, else with
-- its own bit.
module _ (t : Program) (s : SetupOf) (h : List Call) (x : Call) where
  -- this attempt comes next
  abbrev pub IsOwnCall : Call → Type 0
  IsOwnCall own = IsNextCall t s h x.thread (given_bit s x.bit) own

  -- why no attempt comes next; memory may be refused to the watcher, too
  abbrev pub IsOwnRefusal : AskError → Type 0
  IsOwnRefusal Memory = Unit {0}
  IsOwnRefusal f = IsAskRefusal t s h x.thread (given_bit s x.bit) f

-- the history is legal, and has the bits of the seed if there is one
pub record IsPlayable (t : Program) (s : SetupOf) (h : List Call) : Type 0 where
  pub legal : IsLegal t s h
  pub seeded : HasSeededBits s h

-- the text is the trace of such a history, of a setup that the program accepts
pub record IsTrace
    (t : Program) (v : Version) (s : SetupOf) (h : List Call) (text : List ℕ) : Type 0 where
  pub head : HasHead s
  pub fine : setup_error t s ≡ None
  pub playable : IsPlayable t s h
  pub is : text ≡ text_of v s h

-- the number of lines of the attempts of a history
abbrev pub line_count : Version → List Call → ℕ
line_count One h = length h
line_count Two h = length (pieces_of h)

-- a line of attempts of one of n threads that may follow an attempt of the last thread, or the head
-- if there is none; and its attempts
module _ (n : ℕ) (last : Option ℕ) (line : List ℕ) (calls : List Call) where
  -- one attempt
  pub record IsCallLine : Type 0 where
    pub call : Call
    pub thread : call.thread < n
    pub is : line ≡ call_line call
    pub holds : calls ≡ call ∷ []

  -- a piece, which is of another thread than the line before
  pub record IsPieceLine : Type 0 where
    pub piece : Piece
    pub thread : piece.thread < n
    pub other : Some piece.thread ≢ last
    pub is : line ≡ piece_line piece
    pub holds : calls ≡ calls_of_piece piece

  -- either, by the version of the trace
  abbrev pub IsBodyLine : Version → Type 0
  IsBodyLine One = IsCallLine
  IsBodyLine Two = IsPieceLine

-- a decimal of any length, without leading zeros
pub record IsDecimal (digits : List ℕ) : Type 0 where
  pub some : 0 < length digits
  pub each : AllDigits 10 digits
  pub first : slice_index digits 0 ≡ 48 → length digits ≡ 1

-- an end line, whatever its numbers
pub record IsEndLine (line : List ℕ) : Type 0 where
  pub calls : List ℕ
  pub left_live : List ℕ
  pub first : IsDecimal calls
  pub second : IsDecimal left_live
  pub is : line ≡ codes "end " ++ (calls ++ (codes " " ++ (left_live ++ codes "\n")))

-- The text that may be after the attempts of a history, other than its own end alone.
module _ (own rest : List ℕ) where
  -- another end
  pub record HasOtherEnd : Type 0 where
    pub line : List ℕ
    pub more : List ℕ
    pub is_end : IsEndLine line
    pub begins : rest ≡ line ++ more
    pub other : line ≢ own

  -- its own end, and something after it
  pub record HasMoreAfter : Type 0 where
    pub more : List ℕ
    pub begins : rest ≡ own ++ more
    pub some : more ≢ []

-- Why the attempt x is refused on line n after the history h: its thread has made its last attempt;
-- else the machine's own attempt, with the bit of the seed if there is one, has another bit; else
-- it has another reply.
module _ (t : Program) (s : SetupOf) (h : List Call) (n : ℕ) (x : Call) where
  -- the machine's own attempt of the thread, after those of h
  pub record IsDue (due : Due) : Type 0 where
    pub calls : due.calls ≡ length h
    pub own : IsOwnCall t s h x due.call

  abbrev pub IsCallError : ReplayError → Type 0
  IsCallError (error.AfterFinish m made) =
      (m ≡ n) × (made ≡ length h) × (is_terminated s h x.thread ≡ true)
  IsCallError (error.Bit m due) = (m ≡ n) × IsDue due × (due.call.bit ≢ x.bit)
  IsCallError (error.Reply m due) =
      (m ≡ n) × IsDue due × (due.call.bit ≡ x.bit) × (due.call.reply ≢ x.reply)
  IsCallError f = ⊥

-- one of the attempts of line n is refused, after h and those before it
pub record IsRefusedAmong
    (t : Program) (s : SetupOf) (h : List Call) (n : ℕ) (calls : List Call) (f : ReplayError)
    : Type 0 where
  pub good : List Call
  pub call : Call
  pub others : List Call
  pub parts : calls ≡ good ++ call ∷ others
  pub playable : IsPlayable t s (h ++ good)
  pub refused : IsCallError t s (h ++ good) n call f

-- The text begins with the head of a setup that the program accepts, and the whole lines of a legal
-- history; then comes the rest, whose first line has this number.
pub record Reaches
    (t : Program) (text : List ℕ) (v : Version) (s : SetupOf) (h : List Call) (n : ℕ)
    (rest : List ℕ)
    : Type 0 where
  pub head : HasHead s
  pub fine : setup_error t s ≡ None
  pub playable : IsPlayable t s h
  pub parts : text ≡ head_text v s ++ (calls_text v h ++ rest)
  pub number : n ≡ length (head_lines v s) + line_count v h + 1

-- the counts of the end of a history
abbrev pub counts_of : SetupOf → List Call → EndCounts
counts_of s h = record { calls = length h; left_live = live_threads s h }

-- Why the rest is refused: it is empty; no line that may follow begins it; it begins with one whose
-- attempts are refused; with the end of another history; or with the end, and more after it.
module _
    (t : Program) (v : Version) (s : SetupOf) (h : List Call) (n : ℕ) (rest : List ℕ) where
  -- a line of attempts that may follow those of h
  abbrev pub IsNextLine : List ℕ → List Call → Type 0
  IsNextLine line calls =
      IsBodyLine (threads s) (last_thread (map (λ x. x.thread) h)) line calls v

  -- no line that may follow begins the rest
  pub record HasNoNextLine : Type 0 where
    pub some : rest ≢ []
    pub calls : (line : List ℕ) (calls : List Call) (more : List ℕ)
        → IsNextLine line calls
        → rest ≢ line ++ more
    pub ends : (line more : List ℕ) → IsEndLine line → rest ≢ line ++ more

  -- a line begins it, one of whose attempts is refused after those before it
  pub record HasRefusedCall (f : ReplayError) : Type 0 where
    pub line : List ℕ
    pub calls : List Call
    pub more : List ℕ
    pub is_line : IsNextLine line calls
    pub begins : rest ≡ line ++ more
    pub among : IsRefusedAmong t s h n calls f

  abbrev own_end : List ℕ
  own_end = end_line (length h) (live_threads s h)

  abbrev pub IsRestRefused : ReplayError → Type 0
  IsRestRefused (error.NoEnd counts) = (rest ≡ []) × (counts ≡ counts_of s h)
  IsRestRefused (error.EndCount m counts) =
      (m ≡ n) × (counts ≡ counts_of s h) × HasOtherEnd own_end rest
  IsRestRefused (error.Line m) =
      ((m ≡ n) × HasNoNextLine) ⊎ ((m ≡ n + 1) × HasMoreAfter own_end rest)
  IsRestRefused f = HasRefusedCall f

-- Each refusal, the first that applies. It does not say when memory is refused, except that nothing
-- before it is.
module _ (t : Program) (text : List ℕ) where
  abbrev IsShort : Type 0
  IsShort = length text ≤ MAX_TRACE

  -- the head is one, of a setup that is refused
  pub record HasRefusedSetup (f : SetupError) : Type 0 where
    pub version : Version
    pub setup : SetupOf
    pub rest : List ℕ
    pub head : HasHead setup
    pub parts : text ≡ head_text version setup ++ rest
    pub error : setup_error t setup ≡ Some f

  pub record HasRefusedRest (f : ReplayError) : Type 0 where
    pub version : Version
    pub setup : SetupOf
    pub history : List Call
    pub number : ℕ
    pub rest : List ℕ
    pub reached : Reaches t text version setup history number rest
    pub refused : IsRestRefused t version setup history number rest f

  abbrev pub IsReplayRefusal : ReplayError → Type 0
  IsReplayRefusal error.TooLong = MAX_TRACE < length text
  IsReplayRefusal (error.Head k) = IsShort × BreaksAt head text k
  IsReplayRefusal (error.Setup f) = IsShort × HasRefusedSetup f
  IsReplayRefusal error.Memory = IsShort
  IsReplayRefusal f = IsShort × HasRefusedRest f

-- The attempts of a text that are accepted even if the whole text is not a trace.

-- no attempts of a text with this error are accepted: it has no head, or the setup is refused, or
-- memory was
abbrev pub HasNoCalls : ReplayError → Type 0
HasNoCalls error.TooLong = Unit {0}
HasNoCalls (error.Head k) = Unit {0}
HasNoCalls (error.Setup f) = Unit {0}
HasNoCalls error.Memory = Unit {0}
HasNoCalls f = ⊥

module _ (t : Program) (text : List ℕ) where
  -- These attempts of the text are accepted: it begins with the head of a setup that the program
  -- accepts, and with whole lines of attempts of its threads. These are the first of them, and may
  -- be played.
  pub record IsAccepted (v : Version) (s : SetupOf) (h : List Call) : Type 0 where
    pub head : HasHead s
    pub fine : setup_error t s ≡ None
    pub playable : IsPlayable t s h
    pub others : List Call
    pub threads : AllByRecursion (λ x. x.thread < threads s) others
    pub rest : List ℕ
    pub parts : text ≡ head_text v s ++ (calls_text v (h ++ others) ++ rest)

  -- no more are accepted: all others that are accepted are a prefix of these
  pub record IsLongestAccepted (v : Version) (s : SetupOf) (h : List Call) : Type 0 where
    pub accepted : IsAccepted v s h
    pub longest : (w : Version) (r : SetupOf) (g : List Call)
        → IsAccepted w r g
        → (more : List Call) × (h ≡ g ++ more)

  -- the text is a trace
  pub record IsSomeTrace : Type 0 where
    pub version : Version
    pub setup : SetupOf
    pub history : List Call
    pub is : IsTrace t version setup history text

  -- the text is refused for this error, and this is the trace of its accepted attempts
  pub record IsAcceptedTrace (x : AcceptedTrace) : Type 0 where
    pub version : Version
    pub setup : SetupOf
    pub history : List Call
    pub longest : IsLongestAccepted version setup history
    pub trace : x.trace.items ≡ text_of version setup history
    pub calls : x.calls ≡ length history
    pub refused : IsReplayRefusal t text x.error

-- The result of a replay: a setup, a history, the values that its steps printed, and its report.

-- a row of the result
abbrev pub row_of : Printed → PrintedRow
row_of p = record { thread = p.thread; values = p.values.items }

-- the text is a trace, and this is its contents
pub record IsReplayed (t : Program) (text : List ℕ) (r : Replayed) : Type 0 where
  pub version : Version
  pub trace : IsTrace t version r.setup r.history.items text
  pub printed : map row_of r.printed.items ≡ printed_rows t r.setup r.history.items
  pub report : IsReport r.setup r.history.items r.report

-- it was replayed, the session stands after its history, and the watcher has seen that
pub record IsWatched
    {O : Type 0} (sees : O → Program → SetupOf → List Call → Type 0) (t : Program) (text : List ℕ)
    (w : Watched O)
    : Type 0 where
  pub replayed : IsReplayed t text w.replayed
  pub stands : Stands t w.session w.replayed.history.items
  pub program : w.session.code.tree ≡ t
  pub setup : w.session.setup ≡ w.replayed.setup
  pub seen : sees w.watcher t w.replayed.setup w.replayed.history.items

-- The result of migrating a text.

-- the bytes of the writer before and after a call
module _ (t : Program) (text : List ℕ) (old new : Option (List ℕ)) where
  -- the text is a trace, and that of version 2 of its setup and history was written
  pub record IsMigrated (r : Report) : Type 0 where
    pub version : Version
    pub setup : SetupOf
    pub history : List Call
    pub trace : IsTrace t version setup history text
    pub written : AppendsAll old new (trace_text_2 setup history)
    pub report : IsReport setup history r

  -- the text is a trace, and a proper prefix of the new one was written
  pub record IsPartlyWritten : Type 0 where
    pub version : Version
    pub setup : SetupOf
    pub history : List Call
    pub trace : IsTrace t version setup history text
    pub written : AppendsPart old new (trace_text_2 setup history)

  -- each refusal, the first that applies
  abbrev pub IsMigrateRefusal : MigrateError → Type 0
  IsMigrateRefusal (refusal.Replay f) = (new ≡ old) × IsReplayRefusal t text f
  IsMigrateRefusal refusal.Write = IsPartlyWritten
