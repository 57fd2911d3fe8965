-- The table of the errors, and their lines.
use Rattle.std.specs.Prelude.{if◌then◌else◌, ◌==◌, ◌||◌, ◌&&◌, nat_le, Bool, ℕ, List, [], ◌∷◌, ◌++◌, Option, None, Some, codes, decimal, true, false}
use Rattle.std.specs.List.{concat}
use Rattle.bp_text.specs.Pieces.{bit_text}
use Rattle.bp_syntax.specs.declared.errors.CheckError.TheVariants as check
use Rattle.bp_syntax.specs.declared.errors.CheckError.{CheckError}
use Rattle.bp_machine.specs.declared.setup_errors.SetupError.{SetupError}
use Rattle.bp_machine.specs.declared.setup_errors.SetupError.TheVariants as setup
use Rattle.bp_machine.specs.Histories.{letter_of}
use Rattle.bp_trace.specs.declared.errors.DriveError.{DriveError}
use Rattle.bp_trace.specs.declared.errors.DriveError.TheVariants as drive
use Rattle.bp_trace.specs.declared.errors.ReplayError.{ReplayError}
use Rattle.bp_trace.specs.declared.errors.ReplayError.TheVariants as replay
use Rattle.bp_trace.specs.declared.errors.MigrateError.{MigrateError}
use Rattle.bp_trace.specs.declared.errors.MigrateError.TheVariants as migrate
use Rattle.bp_syntax.specs.declared.errors.ReadError.TheVariants as read
use Rattle.bp_syntax.specs.declared.errors.ReadError.{ReadError}
use Rattle.bp_code.specs.declared.texts.ProgramError.{ProgramError}
use Rattle.bp_code.specs.declared.texts.ProgramError.TheVariants.{Read, Check}
use Rattle.bp_code.specs.declared.texts.CodeError.{CodeError}
use Rattle.bp_code.specs.declared.texts.CodeError.TheVariants as code
use Rattle.bp_test.specs.declared.tests.TestError.{TestError}
use Rattle.bp_test.specs.declared.tests.TestError.TheVariants as test
use Rattle.bp_view.specs.declared.errors.ViewError.{ViewError}
use Rattle.bp_view.specs.declared.errors.ViewError.TheVariants as view
use Rattle.bp_confirm.specs.declared.confirmations.ConfirmError.{ConfirmError}
use Rattle.bp_confirm.specs.declared.confirmations.ConfirmError.TheVariants as confirm
use Rattle.bp_confirm.specs.declared.confirmations.StepReason.{StepReason}
use Rattle.bp_confirm.specs.declared.confirmations.StepReason.TheVariants.{Elsewhere, Ambiguous, Finished, Refused, Differs}
use Rattle.bp_run.specs.declared.answers.RunError.{RunError}
use Rattle.bp_run.specs.declared.answers.RunError.TheVariants as run
use Rattle.bp_messages.specs.declared.error_lines.InputError.{InputError}
use Rattle.bp_messages.specs.declared.error_lines.InputError.TheVariants as input
use Rattle.bp_messages.specs.declared.errors.Error.{Error}
use Rattle.bp_messages.specs.declared.errors.Error.TheVariants.{Device, TooLong, Program, Setup, Schedule, Trace, Steps, NoThread, NoVariable, Start, Early, Write, Memory}
use Rattle.bp_messages.specs.declared.errors.Error.TheVariants as error
use Rattle.bp_messages.specs.declared.error_table.Detail.{Detail}
use Rattle.bp_messages.specs.declared.error_table.Detail.TheVariants.{Nothing, Byte, Thread, Line, ThreadOn, Step, Wanted}
use Rattle.bp_messages.specs.declared.error_table.Row.{Row}

-- The errors of the libraries as a command reports them. Refused memory, a failed write and an
-- input that is too long are each one value.

-- a second input, or a bundle
abbrev pub error_of_input : InputError → Error
error_of_input input.Device = Device
error_of_input input.TooLong = TooLong
error_of_input input.Memory = Memory

-- an input that is the program text
abbrev pub error_of_text : InputError → Error
error_of_text input.TooLong = Program (Read read.TooLong)
error_of_text f = error_of_input f

abbrev pub error_of_program : ProgramError → Error
error_of_program (Read read.Memory) = Memory
error_of_program (Check check.Memory at) = Memory
error_of_program f = Program f

abbrev pub error_of_code : CodeError → Error
error_of_code (code.Program f) = error_of_program f
error_of_code code.Memory = Memory

abbrev pub error_of_setup : SetupError → Error
error_of_setup setup.Memory = Memory
error_of_setup f = Setup f

abbrev pub error_of_schedule : DriveError → Error
error_of_schedule drive.TooLong = TooLong
error_of_schedule drive.Memory = Memory
error_of_schedule drive.Write = Write
error_of_schedule f = Schedule f

abbrev pub error_of_trace : ReplayError → Error
error_of_trace replay.TooLong = TooLong
error_of_trace (replay.Setup f) = error_of_setup f
error_of_trace replay.Memory = Memory
error_of_trace f = Trace f

abbrev pub error_of_steps : ConfirmError → Error
error_of_steps confirm.TooLong = TooLong
error_of_steps confirm.Memory = Memory
error_of_steps f = Steps f

abbrev pub error_of_migration : MigrateError → Error
error_of_migration (migrate.Replay f) = error_of_trace f
error_of_migration migrate.Write = Write

abbrev pub error_of_view : ViewError → Error
error_of_view (view.Replay f) = error_of_trace f
error_of_view (view.NoThread i) = NoThread i
error_of_view (view.NoVariable n) = NoVariable n
error_of_view view.Memory = Memory
error_of_view view.Write = Write

abbrev pub error_of_run : RunError → Error
error_of_run (run.Program f) = error_of_program f
error_of_run (run.Setup f) = error_of_setup f
error_of_run run.Start = Start
error_of_run (run.Early i) = Early i
error_of_run run.Write = Write
error_of_run run.Memory = Memory

abbrev pub error_of_test : TestError → Error
error_of_test test.Memory = Memory
error_of_test test.Write = Write

-- an error's number, its name, and the detail that it names
pub record RowOf : Type 0 where
  pub number : ℕ
  pub name : List ℕ
  pub detail : Detail

abbrev pub row : ℕ → List ℕ → Detail → RowOf
row number name detail = record { number = number; name = name; detail = detail }

abbrev pub row_of : Row → RowOf
row_of r = row r.number r.name.now r.detail

abbrev pub memory_row : RowOf
memory_row = row 7 (codes "Memory") Nothing

abbrev pub write_row : RowOf
write_row = row 51 (codes "Write") Nothing

abbrev pub long_row : RowOf
long_row = row 48 (codes "TooLong") Nothing

abbrev pub read_row : ReadError → RowOf
read_row read.TooLong = row 1 (codes "TooLong") Nothing
read_row (read.BadByte at) = row 2 (codes "BadByte") (Byte at)
read_row (read.OpenName at) = row 3 (codes "OpenName") (Byte at)
read_row (read.TooNested at) = row 4 (codes "TooNested") (Byte at)
read_row (read.TooManyTokens at) = row 5 (codes "TooManyTokens") (Byte at)
read_row (read.Syntax at) = row 6 (codes "Syntax") (Byte at)
read_row read.Memory = memory_row

abbrev pub check_row : CheckError → ℕ → RowOf
check_row check.TwiceGlobal at = row 11 (codes "TwiceGlobal") (Byte at)
check_row check.TwiceProcedure at = row 12 (codes "TwiceProcedure") (Byte at)
check_row check.TwiceLocal at = row 13 (codes "TwiceLocal") (Byte at)
check_row check.TwiceLabel at = row 14 (codes "TwiceLabel") (Byte at)
check_row check.UnknownVariable at = row 15 (codes "UnknownVariable") (Byte at)
check_row check.UnknownProcedure at = row 16 (codes "UnknownProcedure") (Byte at)
check_row check.UnknownLabel at = row 17 (codes "UnknownLabel") (Byte at)
check_row check.Arity at = row 18 (codes "Arity") (Byte at)
check_row check.Lengths at = row 19 (codes "Lengths") (Byte at)
check_row check.TwiceTarget at = row 20 (codes "TwiceTarget") (Byte at)
check_row check.Limit at = row 21 (codes "Limit") (Byte at)
check_row check.Memory at = memory_row

abbrev pub setup_row : SetupError → RowOf
setup_row setup.Threads = row 31 (codes "Threads") Nothing
setup_row (setup.UnknownEntry k) = row 32 (codes "UnknownEntry") (Thread k)
setup_row (setup.EntryHasFormals k) = row 33 (codes "EntryHasFormals") (Thread k)
setup_row setup.InitLength = row 34 (codes "InitLength") Nothing
setup_row setup.OutOfRange = row 35 (codes "OutOfRange") Nothing
setup_row setup.Memory = memory_row

abbrev pub schedule_row : DriveError → RowOf
schedule_row drive.TooLong = long_row
schedule_row (drive.Line n) = row 42 (codes "Line") (Line n)
schedule_row (drive.AfterFinish n) = row 47 (codes "AfterFinish") (Line n)
schedule_row drive.Memory = memory_row
schedule_row drive.Write = write_row

abbrev pub trace_row : ReplayError → RowOf
trace_row replay.TooLong = long_row
trace_row (replay.Head n) = row 41 (codes "Head") (Line n)
trace_row (replay.Setup f) = setup_row f
trace_row (replay.Line n) = row 42 (codes "Line") (Line n)
trace_row (replay.AfterFinish n made) = row 47 (codes "AfterFinish") (Line n)
trace_row (replay.Bit n due) = row 43 (codes "Bit") (Line n)
trace_row (replay.Reply n due) = row 44 (codes "Reply") (Wanted n due.call.reply)
trace_row (replay.NoEnd counts) = row 45 (codes "NoEnd") Nothing
trace_row (replay.EndCount n counts) = row 46 (codes "EndCount") Nothing
trace_row replay.Memory = memory_row

-- a step that is not taken for this reason
abbrev pub step_row : StepReason → Detail → RowOf
step_row Elsewhere step = row 58 (codes "Elsewhere") step
step_row Ambiguous step = row 59 (codes "Ambiguous") step
step_row Finished step = row 60 (codes "Finished") step
step_row (Refused reply) step = row 61 (codes "Refused") step
step_row (Differs found) step = row 62 (codes "Differs") step

abbrev pub steps_row : ConfirmError → RowOf
steps_row confirm.TooLong = long_row
steps_row confirm.NoSteps = row 63 (codes "NoSteps") Nothing
steps_row (confirm.Line n) = row 42 (codes "Line") (Line n)
steps_row (confirm.NoThread n k) = row 36 (codes "NoThread") (ThreadOn n k)
steps_row (confirm.NoVariable n value) = row 57 (codes "NoVariable") (Line n)
steps_row (confirm.Step r) = step_row r.reason (Step r)
steps_row confirm.Memory = memory_row

abbrev pub error_row : Error → RowOf
error_row error.Device = row 54 (codes "Device") Nothing
error_row error.TooLong = long_row
error_row (error.Program (Read f)) = read_row f
error_row (error.Program (Check f at)) = check_row f at
error_row (error.Setup f) = setup_row f
error_row (error.Schedule f) = schedule_row f
error_row (error.Trace f) = trace_row f
error_row (error.Steps f) = steps_row f
error_row (error.NoThread i) = row 36 (codes "NoThread") (Thread i)
error_row (error.NoVariable n) = row 57 (codes "NoVariable") Nothing
error_row error.NoFailure = row 56 (codes "NoFailure") Nothing
error_row error.Start = row 53 (codes "Start") Nothing
error_row (error.Early k) = row 55 (codes "Early") (Thread k)
error_row error.Write = write_row
error_row error.Memory = memory_row

-- memory, a write, a worker's start, a device, a worker that stopped early
abbrev pub is_of_the_machine : ℕ → Bool
is_of_the_machine n = n == 7 || (n == 51 || nat_le 53 n && nat_le n 55)

-- a step that is not taken
abbrev pub is_of_a_step : ℕ → Bool
is_of_a_step n = nat_le 58 n && nat_le n 62

-- the exit status of a run that ended by an error of this number, or with a failed assertion, or
-- cleanly
abbrev pub exit_status : (has_failed : Bool) → Option ℕ → ℕ
exit_status failed (Some n) =
    if is_of_the_machine n then 3 else if is_of_a_step n then 4 else 2
exit_status true None = 1
exit_status false None = 0

-- the exit status of a run that ended by the error
abbrev pub status_of : Error → ℕ
status_of f = exit_status false (Some (error_row f).number)

abbrev pub error_head : ℕ → List ℕ → List ℕ
error_head n name = concat (codes "btrun: " ∷ decimal n ∷ codes " " ∷ name ∷ [])

-- the bit that a thread sees, or a dash if it sees no variable of the name
abbrev pub seen_text : Option Bool → List ℕ
seen_text None = codes "-"
seen_text (Some bit) = bit_text bit

-- the line of a step that is not taken, and the reply that is not a step, or the value that is seen
abbrev pub step_detail : ℕ → StepReason → List ℕ
step_detail n (Refused r) =
    concat (codes " line " ∷ decimal n ∷ codes " reply " ∷ (letter_of r ∷ []) ∷ [])
step_detail n (Differs d) =
    concat (codes " line " ∷ decimal n ∷ codes " value " ∷ seen_text d.seen ∷ [])
step_detail n reason = codes " line " ++ decimal n

abbrev pub detail_text : Detail → List ℕ
detail_text Nothing = []
detail_text (Byte n) = codes " at " ++ decimal n
detail_text (Thread n) = codes " thread " ++ decimal n
detail_text (Line n) = codes " line " ++ decimal n
detail_text (ThreadOn n k) = codes " line " ++ decimal n
detail_text (Step r) = step_detail r.line r.reason
detail_text (Wanted n r) =
    concat (codes " line " ∷ decimal n ∷ codes " wanted " ∷ (letter_of r ∷ []) ∷ [])

-- the line of an error
abbrev pub error_line : Error → List ℕ
error_line f =
    let r = error_row f in error_head r.number r.name ++ (detail_text r.detail ++ codes "\n")
