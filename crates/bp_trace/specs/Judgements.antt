-- How a replay judges an attempt: a device, which no public clause names.
use Rattle.std.specs.Prelude.{◌≡◌, ◌≢◌, ◌⊎◌, ◌≤◌, ◌+◌, ◌++◌, ℕ, List, [], Option, length, map, drop}
use Rattle.std.specs.Option.{option_map, option_to_list}
use Rattle.bp_syntax.specs.Ast.{Program}
use Rattle.bp_machine.specs.declared.calls.Call.{Call}
use Rattle.bp_machine.specs.declared.calls.AskError.{AskError}
use Rattle.bp_machine.specs.declared.calls.AskError.TheVariants as refused
use Rattle.bp_machine.specs.declared.setup_errors.SetupError.{SetupError}
use Rattle.bp_machine.specs.declared.setup_errors.SetupError.TheVariants as refused_setup
use Rattle.bp_machine.specs.Sessions.{last_thread, SessionOf, Stands}
use Rattle.bp_machine.specs.declared.calls.Report.{Report}
use Rattle.bp_machine.specs.Runs.{PrintedRow, printed_rows}
use Rattle.bp_machine.specs.Histories.{IsReport}
use Rattle.bp_machine.specs.Setups.{SetupOf, threads}
use Rattle.bp_trace.specs.declared.judgements.Printed.{Printed}
use Rattle.bp_trace.specs.declared.judgements.Played.{Played}
use Rattle.bp_trace.specs.declared.plays.Body.{Body}
use Rattle.bp_trace.specs.declared.replays.Opened.{Opened}
use Rattle.bp_trace.specs.declared.limits.TheConstants.{MAX_TRACE}
use Rattle.bp_trace.specs.declared.traces.Version.{Version}
use Rattle.bp_trace.specs.TraceText.{HasHead, calls_text, head_lines, head_text}
use Rattle.bp_trace.specs.Readings.{HasNoBodyLine}
use Rattle.bp_trace.specs.Replays.{row_of, IsLongestAccepted, IsPlayable, line_count, IsCallError, IsRefusedAmong, IsReplayRefusal, IsTrace, HasRefusedCall}
use Rattle.bp_trace.specs.declared.errors.Due.{Due}
use Rattle.bp_trace.specs.declared.errors.ReplayError.{ReplayError}
use Rattle.bp_trace.specs.declared.errors.ReplayError.TheVariants as error

-- the rows of an attempt, which prints one or none
abbrev pub rows_of : Option Printed → List PrintedRow
rows_of row = option_to_list (option_map row_of row)

-- the refusal of an attempt on the line n, after this number of attempts; its thread exists
abbrev pub replay_error_of : AskError → ℕ → ℕ → ReplayError
replay_error_of refused.Memory n made = error.Memory
replay_error_of f n made = error.AfterFinish n made

-- the machine's attempt has the bit and the reply of the trace's
pub record IsOwnAs (own x : Call) : Type 0 where
  pub bit : own.bit ≡ x.bit
  pub reply : own.reply ≡ x.reply

-- the bit or the reply differs after this number of attempts
module _ (own x : Call) (n made : ℕ) where
  pub record IsDueCall (due : Due) : Type 0 where
    pub calls : due.calls ≡ made
    pub call : due.call ≡ own

  abbrev pub IsMismatch : ReplayError → Type 0
  IsMismatch (error.Bit m due) = (m ≡ n) × IsDueCall due × (own.bit ≢ x.bit)
  IsMismatch (error.Reply m due) =
      (m ≡ n) × IsDueCall due × (own.bit ≡ x.bit) × (own.reply ≢ x.reply)
  IsMismatch f = ⊥

-- why an attempt on the line n is refused after h
abbrev pub IsCallRefusal : Program → SetupOf → List Call → ℕ → Call → ReplayError → Type 0
IsCallRefusal t s h n x f = (f ≡ error.Memory) ⊎ IsCallError t s h n x f

-- the session stands after the attempts that were played, and these are the rows that they print
abbrev pub ArePlayed : {O : Type 0} → SessionOf → Played O → Type 0
ArePlayed x p =
    Stands x.code.tree x p.history.items
    × (map row_of p.printed.items ≡ printed_rows x.code.tree x.setup p.history.items)

-- observations of the attempts played so far remain valid with the new ones
abbrev pub Watches
    : {O : Type 0}
    → (O → O → Program → SetupOf → List Call → Type 0)
    → Program
    → SetupOf
    → Played O
    → Played O
    → Type 0
Watches {O} sees t s old new =
    (first : O)
    → sees first old.watcher t s old.history.items
    → sees first new.watcher t s new.history.items

-- a watcher that has begun with this setup sees all attempts that are played
abbrev pub WatchesAll
    : {O : Type 0}
    → (O → O → Program → SetupOf → List Call → Type 0)
    → Program
    → SetupOf
    → O
    → Played O
    → Type 0
WatchesAll {O} sees t s begun p =
    (first : O) → sees first begun t s [] → sees first p.watcher t s p.history.items

-- an attempt of the line n is refused after h, and those of the line before it were played
pub record IsRefusedAfter
    (t : Program) (s : SetupOf) (h : List Call) (n : ℕ) (calls played : List Call)
    (f : ReplayError)
    : Type 0 where
  pub among : IsRefusedAmong t s h n calls f
  pub are : played ≡ h ++ among.good

-- why the attempts of the line n are refused after h and the attempts played
abbrev pub IsLineRefused :
    Program → SetupOf → List Call → ℕ → List Call → List Call → ReplayError → Type 0
IsLineRefused t s h n calls played f =
    (f ≡ error.Memory) ⊎ IsRefusedAfter t s h n calls played f

-- the lines of the attempts that were played begin the text, and no line of attempts follows them
pub record IsBody
    {O : Type 0} (v : Version) (s : SetupOf) (text : List ℕ) (first : ℕ) (b : Body O)
    : Type 0 where
  pub within : b.size ≤ length text
  pub parts : text ≡ calls_text v b.played.history.items ++ drop b.size text
  pub number : b.line ≡ first + line_count v b.played.history.items
  pub few : b.line ≤ first + b.size
  pub ends : HasNoBodyLine v (threads s) (last_thread (map (λ x. x.thread) b.played.history.items))
      (drop b.size text)

-- the lines of attempts that may be played begin the text, then a line of which one attempt is
-- refused; those before it were played
pub record HasRefusedBody
    (t : Program) (v : Version) (s : SetupOf) (text : List ℕ) (first : ℕ) (played : List Call)
    (f : ReplayError)
    : Type 0 where
  pub history : List Call
  pub rest : List ℕ
  pub playable : IsPlayable t s history
  pub parts : text ≡ calls_text v history ++ rest
  pub refused : HasRefusedCall t v s history (first + line_count v history) rest f
  pub are : played ≡ history ++ refused.among.good

abbrev pub IsBodyRefusal :
    Program → Version → SetupOf → List ℕ → ℕ → List Call → ReplayError → Type 0
IsBodyRefusal t v s text first played f =
    (f ≡ error.Memory) ⊎ HasRefusedBody t v s text first played f

-- the text is short enough, and the head has no more bytes and lines than it
pub record FitsText (text : List ℕ) (o : Opened) : Type 0 where
  pub short : length text ≤ MAX_TRACE
  pub within : o.size ≤ length text
  pub few : o.lines + length (drop o.size text) ≤ length text

-- the head begins the text, and has this number of bytes and lines
pub record IsOpened (text : List ℕ) (o : Opened) : Type 0 where
  pub has : HasHead o.setup
  pub parts : text ≡ head_text o.version o.setup ++ drop o.size text
  pub lines : o.lines ≡ length (head_lines o.version o.setup)

-- the text with this head is the trace of this history, which has this report
pub record IsPlayedTrace
    (t : Program) (text : List ℕ) (o : Opened) (h : List Call) (r : Report) : Type 0 where
  pub trace : IsTrace t o.version o.setup h text
  pub report : IsReport o.setup h r

-- the text with this head is refused after these accepted attempts
pub record IsRefusedOpened
    (t : Program) (text : List ℕ) (o : Opened) (kept : List Call) (f : ReplayError) : Type 0 where
  pub refusal : IsReplayRefusal t text f
  pub longest : (f ≡ error.Memory) ⊎ IsLongestAccepted t text o.version o.setup kept

-- the refusal of a head whose setup is refused
abbrev pub replay_error_of_setup : SetupError → ReplayError
replay_error_of_setup refused_setup.Memory = error.Memory
replay_error_of_setup f = error.Setup f
