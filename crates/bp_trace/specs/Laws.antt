-- Laws of schedules and traces.
use Rattle.std.specs.Prelude.{◌≡◌, ◌≢◌, ℕ, List, length, map}
use Rattle.bp_syntax.specs.Ast.{Program}
use Rattle.bp_flat.specs.Moves.{Configuration}
use Rattle.bp_syntax.specs.Texts.{HasText}
use Rattle.bp_syntax.specs.Errors.{IsWellFormed}
use Rattle.bp_machine.specs.declared.calls.Call.{Call}
use Rattle.bp_machine.specs.Runs.{IsBoundedRun, history_of_run}
use Rattle.bp_machine.specs.Histories.{IsLeastWithin, IsLegal}
use Rattle.bp_machine.specs.Setups.{SetupOf, IsInRange}
use Rattle.bp_trace.specs.TraceText.{calls_of_pieces, pieces_of, schedule_text, lines_of_history, text_of, IsWritable}
use Rattle.bp_trace.specs.declared.errors.ReplayError.{ReplayError}
use Rattle.bp_trace.specs.declared.errors.ReplayError.TheVariants.{Memory}
use Rattle.bp_trace.specs.declared.traces.Version.{Version}
use Rattle.bp_trace.specs.Replays.{IsTrace, IsReplayRefusal}
use Rattle.bp_trace.specs.declared.errors.DriveError.{DriveError}
use Rattle.bp_trace.specs.declared.errors.DriveError.TheVariants as drive
use Rattle.bp_trace.specs.Drives.{IsDriven, IsBadLine, IsAfterFinish, IsScheduleRefusal}

-- the schedule drives to this history and no other, and no line of it is refused
pub record DrivesTo (t : Program) (s : SetupOf) (schedule : List ℕ) (h : List Call) : Type 0 where
  pub driven : IsDriven t s schedule h
  pub alone : (g : List Call) → IsDriven t s schedule g → g ≡ h
  pub lines : (n : ℕ) → IsBadLine t s schedule n → ⊥
  pub finishes : (n : ℕ) → IsAfterFinish t s schedule n → ⊥

-- the lines of the attempts of a legal history drive its program to it
abbrev pub LinesDriveAgain : Type 0
LinesDriveAgain =
    (t : Program) (s : SetupOf) (h : List Call)
    → IsInRange s
    → IsLegal t s h
    → DrivesTo t s (schedule_text (lines_of_history h)) h

-- the lines of the steps of a run within the bounds of a setup drive its program to the history of
-- the run
abbrev pub RunsDriveToHistories : Type 0
RunsDriveToHistories =
    (t : Program) (s : SetupOf) (steps : List Call) (d : Configuration)
    → IsInRange s
    → IsBoundedRun t s steps d
    → DrivesTo t s (schedule_text (lines_of_history steps)) (history_of_run steps d.failed)

-- a schedule has at most one refusal apart from memory
abbrev pub OneScheduleRefusal : Type 0
OneScheduleRefusal =
    (t : Program) (s : SetupOf) (schedule : List ℕ) (f g : DriveError)
    → IsInRange s
    → f ≢ drive.Memory
    → g ≢ drive.Memory
    → IsScheduleRefusal t s schedule f
    → IsScheduleRefusal t s schedule g
    → f ≡ g

-- a schedule that is refused for anything but memory drives the program to no history
abbrev pub RefusedDrivesNowhere : Type 0
RefusedDrivesNowhere =
    (t : Program) (s : SetupOf) (schedule : List ℕ) (h : List Call) (f : DriveError)
    → IsInRange s
    → f ≢ drive.Memory
    → IsScheduleRefusal t s schedule f
    → IsDriven t s schedule h
    → ⊥

-- the pieces of a history are its attempts, cut into the fewest lists of one thread each
pub record AreItsPieces (h : List Call) : Type 0 where
  pub whole : calls_of_pieces (pieces_of h) ≡ h
  pub fewest : IsLeastWithin (length (pieces_of h)) (map (λ x. x.thread) h)

abbrev pub PiecesAreFewest : Type 0
PiecesAreFewest = (h : List Call) → AreItsPieces h

-- no two triples of version, setup and history have one text
abbrev pub NoTwoHaveOneText : Type 0
NoTwoHaveOneText =
    (v w : Version) (s r : SetupOf) (h g : List Call)
    → IsWritable s h
    → IsWritable r g
    → text_of v s h ≡ text_of w r g
    → (v ≡ w) × (s ≡ r) × (h ≡ g)

-- a text has at most one refusal apart from memory
abbrev pub OneRefusal : Type 0
OneRefusal =
    (t : Program) (text : List ℕ) (f g : ReplayError)
    → f ≢ Memory
    → g ≢ Memory
    → IsReplayRefusal t text f
    → IsReplayRefusal t text g
    → f ≡ g

-- a text that is refused for anything but memory is not a trace of the well-formed program of a
-- text
abbrev pub RefusedIsNoTrace : Type 0
RefusedIsNoTrace =
    (t : Program) (v : Version) (s : SetupOf) (h : List Call) (text : List ℕ) (f : ReplayError)
    → IsWellFormed t
    → HasText t
    → f ≢ Memory
    → IsReplayRefusal t text f
    → IsTrace t v s h text
    → ⊥
