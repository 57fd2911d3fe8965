-- A worker's results, and why it stops before its thread has terminated.
use Rattle.std.specs.Prelude.{◌≡◌, ℕ, Bool, true, false, List, ◌++◌, Option, None, Some, length, flat_map, ⊤, ◌↔◌, IsTrue, Result, IfErr, MatchResult}
use Rattle.std.specs.List.{All}
use Rattle.bp_text.specs.declared.sinks.Sink.{Sink}
use Rattle.bp_text.specs.Writing.{Given}
use Rattle.bp_syntax.specs.Ast.{Program}
use Rattle.bp_flat.specs.Flat.{Flat}
use Rattle.bp_machine.specs.declared.calls.Call.{Call}
use Rattle.bp_machine.specs.Setups.{SetupOf}
use Rattle.bp_machine.specs.declared.calls.AskError.TheVariants as error
use Rattle.bp_run.specs.Desks.{SeatOf}
use Rattle.bp_run.specs.Gatherings.{TellsOfRefusal}
use Rattle.bp_trace.specs.declared.traces.Version.TheVariants.{One}
use Rattle.bp_trace.specs.TraceText.{head_text, call_line}
use Rattle.bp_run.specs.declared.workers.Unfinished.{Unfinished}
use Rattle.bp_run.specs.declared.workers.Unfinished.TheVariants.{Memory, Terminated, Halted}

-- The attempts that a writer thread has taken, and the text given to its sink.

-- a line for each attempt
abbrev pub lines_of : List Call → List ℕ
lines_of cs = flat_map call_line cs

-- the sink was given the lines of the attempts that were taken
pub record AreCallsWritten
    {W : Type 0} (contents : W → Option (List ℕ)) (old new : Sink W) (taken taken_now : List Call)
    : Type 0 where
  pub more : List Call
  pub grown : taken_now ≡ taken ++ more
  pub given : Given contents old new (lines_of more)

-- if all workers were started, the sink was given the head and the attempts that were taken;
-- otherwise it was not touched
abbrev pub IsStaged
    : {W : Type 0} → (W → Option (List ℕ)) → SetupOf → Sink W → Sink W → List Call → Bool → Type 0
IsStaged contents s old new taken true = Given contents old new (head_text One s ++ lines_of taken)
IsStaged contents s old new taken false = new ≡ old

-- the number of attempts left in a gathered tap
abbrev pub rest_length : Option (List Call) → ℕ
rest_length None = 0
rest_length (Some cs) = length cs

-- the sink was given the first of the attempts that were left, and these are left
pub record IsRestWritten
    {W : Type 0} (contents : W → Option (List ℕ)) (old new : Sink W)
    (rest rest_now : Option (List Call))
    : Type 0 where
  pub more : List Call
  pub left : List Call
  pub were : rest ≡ Some (more ++ left)
  pub are : rest_now ≡ Some left
  pub given : Given contents old new (lines_of more)

-- why the worker of thread i may stop though its seat is open, unless it was told to: memory is
-- refused only before a call of a procedure, or the thread has terminated, in some legal history
abbrev pub TellsOfStop : Program → SetupOf → ℕ → Unfinished → Type 0
TellsOfStop t s i Memory = TellsOfRefusal t s i error.Memory
TellsOfStop t s i Terminated = TellsOfRefusal t s i error.Terminated
TellsOfStop t s i Halted = ⊤
