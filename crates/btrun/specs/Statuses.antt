-- How runs end whose arguments ask for no task: the exit status, and the text on both streams.
use Rattle.std.specs.Prelude.{ℕ, List, [], ◌∷◌, codes, ◌≡◌, ◌⊎◌, Bool, true, false, Option, Result, Ok, Err, string_bytes}
use Rattle.std.specs.List.{concat}
use Rattle.std.specs.declared.io.ErrorKind.{ErrorKind as IoErrorKind}
use Rattle.std.specs.declared.io.ErrorKind.TheVariants as io
use Rattle.bp_text.specs.Pieces.{string_text, key_text}
use Rattle.bp_text.specs.Writing.{Writes}
use Rattle.bp_text.specs.declared.sinks.WriteError.{WriteError}
use Rattle.bp_text.specs.declared.sinks.WriteError.TheVariants as write
use Rattle.bp_messages.specs.declared.errors.Error.TheVariants as error
use Rattle.bp_commands.specs.ErrorReports.{HasErrorLine}
use Rattle.bp_commands.specs.Jobs.{Held}
use Rattle.bp_commands.specs.declared.run_ends.RunEnd.{RunEnd}
use Rattle.btrun.specs.declared.arguments.no_tasks.NoTask.{NoTask}
use Rattle.btrun.specs.declared.arguments.no_tasks.NoTask.TheVariants.{Memory, Printed, Refused}
use Rattle.btrun.specs.declared.arguments.no_tasks.Refusal.{Refusal}
use Rattle.btrun.specs.NoTasks.{IsRefused}

-- The object on refused arguments, for programs.

-- a member that is null
abbrev pub no_member : List ℕ → List ℕ
no_member key = concat (key_text key ∷ codes "null" ∷ [])

-- the object on refused arguments, with this message; the error has no number and no place
abbrev pub refusal_object : (message : List ℕ) → List ℕ
refusal_object message =
    concat (
    codes "{\"kind\":\"fault\",\"version\":1"
    ∷ no_member (codes "number")
    ∷ key_text (codes "name") ∷ string_text (codes "Arguments")
    ∷ no_member (codes "file")
    ∷ no_member (codes "offset")
    ∷ no_member (codes "line")
    ∷ no_member (codes "column")
    ∷ no_member (codes "thread")
    ∷ no_member (codes "wanted")
    ∷ no_member (codes "step")
    ∷ key_text (codes "message") ∷ string_text message
    ∷ codes "}\n"
    ∷ [])

-- the answer to arguments that are not read; a text on them may lack memory
abbrev pub IsUnread : IoErrorKind → NoTask → Type 0
IsUnread io.OutOfMemory none = none ≡ Memory
IsUnread _ none = (none ≡ Memory) ⊎ IsRefused none

-- memory was refused, and a line says so
pub record IsLackOfMemory (old new : Option (List ℕ)) (end : RunEnd) : Type 0 where
  pub status : end.status ≡ 3
  pub line : HasErrorLine error.Memory old new end.told

-- a text was written whole, or a part of it was refused
abbrev whole : Result (Unit {0}) WriteError
whole = Ok tt

abbrev in_part : Result (Unit {0}) WriteError
in_part = Err write.Write

-- the text was printed, and nothing else
pub record IsPrintedWhole (text : List ℕ) (before after : Held) (end : RunEnd) : Type 0 where
  pub printed : Writes before.output after.output text whole
  pub status : end.status ≡ 0
  pub silent : after.errors ≡ before.errors

-- the output refused a part of the text, and a line says so
pub record IsPrintedInPart (text : List ℕ) (before after : Held) (end : RunEnd) : Type 0 where
  pub printed : Writes before.output after.output text in_part
  pub status : end.status ≡ 3
  pub line : HasErrorLine error.Write before.errors after.errors end.told

abbrev pub IsPrintedEnd : List ℕ → Held → Held → RunEnd → Type 0
IsPrintedEnd text before after end =
    IsPrintedWhole text before after end ⊎ IsPrintedInPart text before after end

-- why arguments are refused: an object for programs, otherwise a text
abbrev pub refusal_text : (json : Bool) → Refusal → List ℕ
refusal_text true refusal = refusal_object (string_bytes refusal.message)
refusal_text false refusal = string_bytes refusal.text

-- the reason for refusing the arguments was reported, and nothing was printed
pub record IsRefusalEnd (text : List ℕ) (before after : Held) (end : RunEnd) : Type 0 where
  pub printed : after.output ≡ before.output
  pub status : end.status ≡ 2
  pub line : Writes before.errors after.errors text end.told

-- the run of arguments that ask for no task ended
abbrev pub IsEndWithout : (json : Bool) → NoTask → Held → Held → RunEnd → Type 0
IsEndWithout json Memory before after end =
    (after.output ≡ before.output) × IsLackOfMemory before.errors after.errors end
IsEndWithout json (Printed text) before after end =
    IsPrintedEnd (string_bytes text) before after end
IsEndWithout json (Refused refusal) before after end =
    IsRefusalEnd (refusal_text json refusal) before after end
