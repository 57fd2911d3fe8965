-- The text that a run of a program writes, its result, and why it is refused.
use Rattle.std.specs.Prelude.{◌≡◌, ◌↔◌, IsTrue, ℕ, Bool, List, Option, length, map, None}
use Rattle.std.specs.Io.KnownBytes.{Appends}
use Rattle.bp_text.specs.Writing.{AppendsPart}
use Rattle.bp_syntax.specs.Ast.{Program}
use Rattle.bp_machine.specs.declared.calls.Call.{Call}
use Rattle.bp_machine.specs.declared.calls.Report.{Report}
use Rattle.bp_machine.specs.declared.calls.Outcome.TheVariants.{Failed}
use Rattle.bp_machine.specs.Histories.{IsWithin, IsLegal, configuration_after, granted_calls, granted_threads, IsRealFailure, IsReport, IsRun, HasSeededBits}
use Rattle.bp_machine.specs.Setups.{SetupOf, start, threads}
use Rattle.bp_machine.specs.declared.setup_errors.SetupError.{SetupError}
use Rattle.bp_run.specs.Desks.{SeatOf, seat_of}
use Rattle.bp_run.specs.Gatherings.{AreOnePerThread, AreSeatsOf, calls_of_seats, open_seats, HaveStopped, StoppedEarly}
use Rattle.bp_trace.specs.TraceText.{trace_text}
use Rattle.bp_code.specs.WellFormedTexts.{IsWellFormedText, IsProgramRefusal}
use Rattle.bp_source.specs.RunOptions.{OptionsOf}
use Rattle.bp_run.specs.declared.answers.WorkerCount.{WorkerCount}
use Rattle.bp_run.specs.declared.answers.RunError.{RunError}
use Rattle.bp_run.specs.declared.answers.RunError.TheVariants.{Start, Early, Write, Memory}
use Rattle.bp_run.specs.declared.answers.RunReport.{RunReport}
use Rattle.bp_run.specs.declared.answers.RunError.TheVariants as error
use Rattle.bp_run.specs.Options.{setup_under, options_error, IsOptionsRefusal}

-- The counts of a run's workers.

-- the seat from which a worker made these counts
abbrev pub seat_of_worker : WorkerCount → SeatOf
seat_of_worker w = seat_of w.thread w.calls w.is_open

-- The result of playing a program on a setup by real threads.

-- The bytes of the writer are those before and after the program t was played on the setup s.
module _ (t : Program) (s : SetupOf) (old new : Option (List ℕ)) where
  -- The trace of one history was written, and the report is of it. The history is legal, with the
  -- choice bits of the seed. Its granted steps are a run of the program, within the allowed
  -- contexts; a reported failure is a false assertion of that run. Each thread has terminated, or
  -- its next step is a call: memory is refused only there.
  pub record IsPlayed (r : Report) : Type 0 where
    pub history : List Call
    pub written : Appends old new (trace_text s history)
    pub report : IsReport s history r
    pub legal : IsLegal t s history
    pub seeded : HasSeededBits s history
    pub steps : IsRun t (start t s) (granted_calls history) (configuration_after t s history)
    pub within : IsWithin s.contexts (granted_threads history)
    pub failure : (i : ℕ) → r.outcome ≡ Failed i → IsRealFailure t s history i
    pub stopped : HaveStopped t s history

  -- So it was played on a board with these seats at its end: one for each thread. Together they
  -- have counted exactly the attempts of the history, and as many of them are open as lines in it.
  -- `agree` tells whether each seat has counted its thread's attempts, and is open if and only if
  -- its thread has not terminated.
  pub record IsPlayedFrom (seats : List SeatOf) (agree : Bool) (r : Report) : Type 0 where
    pub played : IsPlayed r
    pub one_each : AreOnePerThread (threads s) seats
    pub made : calls_of_seats seats ≡ length played.history
    pub left : open_seats seats ≡ r.left_live
    pub agreement : IsTrue agree ↔ AreSeatsOf s played.history seats

  -- these workers played it, and this is the report
  abbrev pub IsPlayedBy : RunReport → Type 0
  IsPlayedBy r = IsPlayedFrom (map seat_of_worker r.workers.items) r.counts_agree r.report

  -- The trace of one legal history was written, with the bits of the seed. In it this thread is
  -- live, although its next step is not a call.
  pub record IsEarly (thread : ℕ) : Type 0 where
    pub history : List Call
    pub legal : IsLegal t s history
    pub seeded : HasSeededBits s history
    pub written : Appends old new (trace_text s history)
    pub early : StoppedEarly t s history thread

  -- a proper prefix of the trace of one legal history was written, with the bits of the seed
  pub record IsCutTrace : Type 0 where
    pub history : List Call
    pub legal : IsLegal t s history
    pub seeded : HasSeededBits s history
    pub written : AppendsPart old new (trace_text s history)

  -- why there is no report, and the text written
  abbrev pub IsPlayRefusal : RunError → Type 0
  IsPlayRefusal Start = new ≡ old
  IsPlayRefusal (Early thread) = IsEarly thread
  IsPlayRefusal Write = IsCutTrace
  IsPlayRefusal Memory = new ≡ old
  IsPlayRefusal f = ⊥

-- the text is that of a well-formed program, which has this property
pub record OfProgram (text : List ℕ) (Has : Program → Type 0) : Type 0 where
  pub program : Program
  pub of : IsWellFormedText text program
  pub has : Has program

-- The bytes of the writer are those before and after the program of the text was run.
module _ (o : OptionsOf) (text : List ℕ) (old new : Option (List ℕ)) where
  -- the program has no error under the options, and these workers played it on its setup: the trace
  -- of a history was written, and the report is of that history
  pub record IsTraced (r : RunReport) (t : Program) : Type 0 where
    pub fine : options_error o t ≡ None
    pub played : IsPlayedBy t (setup_under o t) old new r

  -- the program has no error under the options, and playing it was refused
  pub record IsNotPlayed (f : RunError) (t : Program) : Type 0 where
    pub fine : options_error o t ≡ None
    pub refused : IsPlayRefusal t (setup_under o t) old new f

  abbrev pub IsTracedRun : RunReport → Type 0
  IsTracedRun r = OfProgram text (IsTraced r)

  abbrev pub IsRefusedInPlay : RunError → Type 0
  IsRefusedInPlay f = OfProgram text (IsNotPlayed f)

  -- the options are refused for the program of the text; nothing was written
  abbrev pub AreOptionsRefused : SetupError → Type 0
  AreOptionsRefused f = (new ≡ old) × OfProgram text (λ t. IsOptionsRefusal o t f)

  -- memory was refused before a worker was started; nothing was written
  abbrev pub LacksMemory : Type 0
  LacksMemory = (new ≡ old) × OfProgram text (λ _. Unit {0})

  -- why a run is refused, and the text written: the first of these that applies, memory aside
  abbrev pub IsRunRefusal : RunError → Type 0
  IsRunRefusal (error.Program f) = (new ≡ old) × IsProgramRefusal text f
  IsRunRefusal (error.Setup f) = AreOptionsRefused f
  IsRunRefusal error.Memory = LacksMemory
  IsRunRefusal f = IsRefusedInPlay f
