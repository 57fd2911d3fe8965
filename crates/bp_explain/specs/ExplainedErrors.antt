-- How an error of a trace, of a schedule and of reported steps is explained.
use Rattle.std.specs.Prelude.{if◌then◌else◌, ◌≡◌, ◌+◌, ◌==◌, ◌≤◌, nat_lt, ℕ, List, ◌++◌, length, Option, IsSomeAnd}
use Rattle.bp_text.specs.Lines.{position_at}
use Rattle.bp_machine.specs.declared.limits.TheConstants.{MAX_THREADS, MAX_CONTEXTS}
use Rattle.bp_machine.specs.declared.setup_errors.SetupError.{SetupError}
use Rattle.bp_machine.specs.declared.setup_errors.SetupError.TheVariants as setup
use Rattle.bp_machine.specs.Setups.{SetupOf, threads}
use Rattle.bp_trace.specs.declared.limits.TheConstants.{MAX_TRACE}
use Rattle.bp_trace.specs.declared.traces.Version.{Version}
use Rattle.bp_trace.specs.declared.heads.Head.{Head}
use Rattle.bp_trace.specs.TraceText.{HasHead, head_text}
use Rattle.bp_trace.specs.Readings.{setup_of_head}
use Rattle.bp_trace.specs.declared.errors.DriveError.{DriveError}
use Rattle.bp_trace.specs.declared.errors.DriveError.TheVariants as drive
use Rattle.bp_trace.specs.declared.errors.ReplayError.{ReplayError}
use Rattle.bp_trace.specs.declared.errors.ReplayError.TheVariants as replay
use Rattle.bp_advice.specs.declared.explanations.Explanation.{Explanation}
use Rattle.bp_advice.specs.Explanations.{ExplainsLine}
use Rattle.bp_confirm.specs.declared.confirmations.ConfirmError.{ConfirmError}
use Rattle.bp_confirm.specs.declared.confirmations.ConfirmError.TheVariants as confirm
use Rattle.bp_explain.specs.declared.heads.TheConstants.{FIRST_ENTRY}

-- The lines of a trace's head to which the errors of a setup refer.

-- the trace begins with the head of a setup, and is no longer than a trace may be: the head of a
-- longer one is not read
pub record BeginsWithHead (trace : List ℕ) : Type 0 where
  pub fits : length trace ≤ MAX_TRACE
  pub version : Version
  pub setup : SetupOf
  pub rest : List ℕ
  pub has : HasHead setup
  pub parts : trace ≡ head_text version setup ++ rest

-- the head that is read of a trace: of each setup with whose head the trace begins
abbrev pub IsReadHead : List ℕ → Option Head → Type 0
IsReadHead trace head = (b : BeginsWithHead trace) → IsSomeAnd head (λ h. setup_of_head h ≡ b.setup)

-- the line of the initial bits, that of the contexts and that of the attempts of a thread
module _ (s : SetupOf) where
  abbrev pub init_line_number : ℕ
  init_line_number = FIRST_ENTRY + threads s

  abbrev pub contexts_line_number : ℕ
  contexts_line_number = init_line_number + 1

  abbrev pub calls_line_number : ℕ
  calls_line_number = init_line_number + 2

  -- the line of the first number that is out of its range
  abbrev pub range_line_number : ℕ
  range_line_number =
      if nat_lt MAX_CONTEXTS s.contexts then contexts_line_number else calls_line_number

  -- the line of the first entry that is missing, or is one too many
  abbrev pub threads_line_number : ℕ
  threads_line_number = if threads s == 0 then FIRST_ENTRY else FIRST_ENTRY + MAX_THREADS

-- the error of a setup is about this line of a trace that begins with the setup's head
abbrev pub IsSetupLine : List ℕ → SetupError → ℕ → Type 0
IsSetupLine trace setup.Threads n = (b : BeginsWithHead trace) → n ≡ threads_line_number b.setup
IsSetupLine trace (setup.UnknownEntry thread) n = n ≡ FIRST_ENTRY + thread
IsSetupLine trace (setup.EntryHasFormals thread) n = n ≡ FIRST_ENTRY + thread
IsSetupLine trace setup.InitLength n = (b : BeginsWithHead trace) → n ≡ init_line_number b.setup
IsSetupLine trace setup.OutOfRange n = (b : BeginsWithHead trace) → n ≡ range_line_number b.setup
IsSetupLine trace setup.Memory n = Unit {0}

-- How an error of a trace, of a schedule and of reported steps is explained.

-- the explanation of an error of a setup in a trace
abbrev pub ExplainsSetup : List ℕ → List ℕ → SetupError → Explanation → Type 0
ExplainsSetup file trace error e =
    (n : ℕ) × IsSetupLine trace error n × ExplainsLine file n e

-- the explanation is of the line after a trace, at which its end line is expected
abbrev pub ExplainsNoEnd : List ℕ → List ℕ → Explanation → Type 0
ExplainsNoEnd file trace e =
    let last = position_at trace (length trace) in ExplainsLine file last.line e

-- the explanation of an error of a trace: none for refused memory, or for a trace that is too long
abbrev pub ExplainsTrace : List ℕ → List ℕ → ReplayError → Explanation → Type 0
ExplainsTrace file trace replay.TooLong e = ⊥
ExplainsTrace file trace replay.Memory e = ⊥
ExplainsTrace file trace (replay.Setup error) e = ExplainsSetup file trace error e
ExplainsTrace file trace (replay.NoEnd counts) e = ExplainsNoEnd file trace e
ExplainsTrace file trace (replay.Head n) e = ExplainsLine file n e
ExplainsTrace file trace (replay.Line n) e = ExplainsLine file n e
ExplainsTrace file trace (replay.EndCount n counts) e = ExplainsLine file n e
ExplainsTrace file trace (replay.AfterFinish n made) e = ExplainsLine file n e
ExplainsTrace file trace (replay.Bit n due) e = ExplainsLine file n e
ExplainsTrace file trace (replay.Reply n due) e = ExplainsLine file n e

-- the explanation of an error of a schedule: none for refused memory, an output that failed, or a
-- schedule that is too long
abbrev pub ExplainsSchedule : List ℕ → DriveError → Explanation → Type 0
ExplainsSchedule file drive.TooLong e = ⊥
ExplainsSchedule file (drive.Line n) e = ExplainsLine file n e
ExplainsSchedule file (drive.AfterFinish n) e = ExplainsLine file n e
ExplainsSchedule file drive.Memory e = ⊥
ExplainsSchedule file drive.Write e = ⊥

-- the explanation of an error of reported steps: none for refused memory, or for steps that are too
-- long; a list without a step is explained at its first line
abbrev pub ExplainsSteps : List ℕ → ConfirmError → Explanation → Type 0
ExplainsSteps file confirm.TooLong e = ⊥
ExplainsSteps file confirm.NoSteps e = ExplainsLine file 1 e
ExplainsSteps file (confirm.Line n) e = ExplainsLine file n e
ExplainsSteps file (confirm.NoThread n thread) e = ExplainsLine file n e
ExplainsSteps file (confirm.NoVariable n value) e = ExplainsLine file n e
ExplainsSteps file (confirm.Step r) e = ExplainsLine file r.line e
ExplainsSteps file confirm.Memory e = ⊥
