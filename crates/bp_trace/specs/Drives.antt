-- The history to which a schedule drives a program.
use Rattle.std.specs.Prelude.{◌≡◌, ◌≢◌, ℕ, ◌+◌, ◌<◌, ◌≤◌, true, List, [], ◌++◌, Option, length, ◌∷◌}
use Rattle.bp_text.specs.Writing.{AppendsAll, AppendsPart}
use Rattle.bp_syntax.specs.Ast.{Program}
use Rattle.bp_machine.specs.declared.calls.Call.{Call}
use Rattle.bp_machine.specs.declared.calls.Report.{Report}
use Rattle.bp_machine.specs.Setups.{SetupOf, threads}
use Rattle.bp_machine.specs.Histories.{IsLegal, is_terminated, IsReport}
use Rattle.bp_machine.specs.declared.calls.AskError.{AskError}
use Rattle.bp_machine.specs.declared.calls.AskError.TheVariants as refused
use Rattle.bp_trace.specs.declared.errors.DriveError.{DriveError}
use Rattle.bp_trace.specs.declared.errors.DriveError.TheVariants.{TooLong, Line, AfterFinish, Memory, Write}
use Rattle.bp_trace.specs.declared.limits.TheConstants.{MAX_SCHEDULE}
use Rattle.bp_trace.specs.declared.drives.ScheduleLine.{ScheduleLine}
use Rattle.bp_trace.specs.TraceText.{schedule_text, lines_of_history, IsLineAt, HasNoLine, trace_text, line_of_call}

-- a legal history makes the attempts of the lines before the n-th, which begins the rest
pub record DrivesUpTo
    (t : Program) (s : SetupOf) (schedule : List ℕ) (n : ℕ) (rest : List ℕ) : Type 0 where
  pub history : List Call
  pub legal : IsLegal t s history
  pub whole : schedule ≡ schedule_text (lines_of_history history) ++ rest
  pub number : n ≡ length history + 1

-- the n-th line is not a schedule line of a thread of the setup
pub record IsBadLine (t : Program) (s : SetupOf) (schedule : List ℕ) (n : ℕ) : Type 0 where
  pub rest : List ℕ
  pub reached : DrivesUpTo t s schedule n rest
  pub some : rest ≢ []
  pub bad : HasNoLine (threads s) rest

-- the n-th line is one of a thread that has terminated
pub record IsAfterFinish (t : Program) (s : SetupOf) (schedule : List ℕ) (n : ℕ) : Type 0 where
  pub rest : List ℕ
  pub reached : DrivesUpTo t s schedule n rest
  pub line : ScheduleLine
  pub begins : IsLineAt (threads s) rest line
  pub finished : is_terminated s reached.history line.thread ≡ true

-- the schedule is short enough, and its lines are those of a legal history
pub record IsDriven (t : Program) (s : SetupOf) (schedule : List ℕ) (h : List Call) : Type 0 where
  pub short : length schedule ≤ MAX_SCHEDULE
  pub legal : IsLegal t s h
  pub lines : schedule ≡ schedule_text (lines_of_history h)

-- Why a schedule does not drive a program: the first reason that applies. It does not say when
-- memory is refused.
module _ (t : Program) (s : SetupOf) (schedule : List ℕ) where
  abbrev IsShort : Type 0
  IsShort = length schedule ≤ MAX_SCHEDULE

  abbrev pub IsScheduleRefusal : DriveError → Type 0
  IsScheduleRefusal TooLong = MAX_SCHEDULE < length schedule
  IsScheduleRefusal (Line n) = IsShort × IsBadLine t s schedule n
  IsScheduleRefusal (AfterFinish n) = IsShort × IsAfterFinish t s schedule n
  IsScheduleRefusal Memory = IsShort
  IsScheduleRefusal Write = ⊥

  -- the text written then, by the bytes of the writer before and after it
  abbrev pub IsRefusal : Option (List ℕ) → Option (List ℕ) → DriveError → Type 0
  IsRefusal old new Write =
      (h : List Call) × IsDriven t s schedule h × AppendsPart old new (trace_text s h)
  IsRefusal old new f = (new ≡ old) × IsScheduleRefusal f

-- the schedule drives the program to a history, which is written and reported
pub record DrivesTo
    (t : Program) (s : SetupOf) (schedule : List ℕ) (old new : Option (List ℕ)) (r : Report)
    : Type 0 where
  pub history : List Call
  pub driven : IsDriven t s schedule history
  pub written : AppendsAll old new (trace_text s history)
  pub report : IsReport s history r

-- The effect of a line of a schedule on a session: a device of the driver, which no public clause
-- names.

-- the refusal of an attempt on the line n, of an existing thread
abbrev pub drive_error_of : AskError → ℕ → DriveError
drive_error_of refused.Memory n = Memory
drive_error_of f n = AfterFinish n

-- the attempt of this line was added
pub record IsAdded (old new : List Call) (line : ScheduleLine) : Type 0 where
  pub call : Call
  pub is : new ≡ old ++ call ∷ []
  pub asked : line_of_call call ≡ line

-- when the attempt of a line is refused, which is the n-th
module _ (s : SetupOf) (h : List Call) (line : ScheduleLine) (n : ℕ) where
  abbrev pub IsLineRefusal : DriveError → Type 0
  IsLineRefusal TooLong = ⊥
  IsLineRefusal (Line m) = ⊥
  IsLineRefusal (AfterFinish m) = (m ≡ n) × (is_terminated s h line.thread ≡ true)
  IsLineRefusal Memory = Unit {0}
  IsLineRefusal Write = ⊥
