-- The command `run`.
use Rattle.std.specs.Prelude.{◌≡◌, ◌⊎◌, ℕ, List, [], Some, true, false}
use Rattle.bp_syntax.specs.Ast.{Program}
use Rattle.bp_machine.specs.declared.calls.Call.{Call}
use Rattle.bp_machine.specs.declared.setup_errors.SetupError.TheVariants.{OutOfRange}
use Rattle.bp_machine.specs.Histories.{IsLegal, HasSeededBits}
use Rattle.bp_machine.specs.Setups.{SetupOf}
use Rattle.bp_run.specs.declared.answers.RunReport.{RunReport}
use Rattle.bp_source.specs.NamedBits.{NamedBitOf}
use Rattle.bp_source.specs.RunOptions.{OptionsOf}
use Rattle.bp_run.specs.Options.{has_bad_turn_or_ring}
use Rattle.bp_run.specs.Runs.{IsPlayedBy, IsEarly}
use Rattle.bp_trace.specs.TraceText.{trace_text}
use Rattle.bp_messages.specs.declared.errors.Error.{Error}
use Rattle.bp_messages.specs.declared.errors.Error.TheVariants.{Start, Early, Memory}
use Rattle.bp_messages.specs.ErrorTable.{error_of_setup}
use Rattle.bp_commands.specs.Commands.{Command}
use Rattle.bp_commands.specs.Programs.{IsNotOpened, IsOpened}

-- the setup with the seed of the options
abbrev pub seeded : OptionsOf → SetupOf → SetupOf
seeded o s = record s { seed = Some o.seed }

-- The program of a text is run by real threads, under these options, in whose start these globals
-- have their bits by name.
module _ (o : OptionsOf) (named : List NamedBitOf) (text : List ℕ) where
  -- the program accepts the setup, and the turn and the ring are in range
  pub record IsRunnable : Type 0 where
    pub program : Program
    pub setup : SetupOf
    pub opened : IsOpened o.start named text program setup
    pub in_range : has_bad_turn_or_ring o ≡ false

  -- the trace of a legal history, with the bits of the seed
  pub record IsOfRun (written : List ℕ) : Type 0 where
    pub runnable : IsRunnable
    pub history : List Call
    pub legal : IsLegal runnable.program (seeded o runnable.setup) history
    pub bits : HasSeededBits (seeded o runnable.setup) history
    pub is : written ≡ trace_text (seeded o runnable.setup) history

  -- an empty output and the report of the workers after a run
  pub record IsRunReport (written : List ℕ) (report : RunReport) : Type 0 where
    pub runnable : IsRunnable
    pub played :
        let setup = seeded o runnable.setup in
        IsPlayedBy runnable.program setup (Some []) (Some written) report

  -- an empty output after a run in which a worker stopped early has the trace of a history
  pub record IsStoppedEarly (written : List ℕ) (f : Error) : Type 0 where
    pub runnable : IsRunnable
    pub thread : ℕ
    pub early :
        let setup = seeded o runnable.setup in
        IsEarly runnable.program setup (Some []) (Some written) thread
    pub is : f ≡ Early thread

  -- the program accepts the setup, but the turn or the ring is out of range
  pub record HasBadNumbers (f : Error) : Type 0 where
    pub program : Program
    pub setup : SetupOf
    pub opened : IsOpened o.start named text program setup
    pub out_of_range : has_bad_turn_or_ring o ≡ true
    pub is : f ≡ error_of_setup OutOfRange

  -- these include that memory was refused before a worker was started, or a worker could not be
  abbrev pub IsRunRefused : Error → Type 0
  IsRunRefused f =
      IsNotOpened o.start named text f
      ⊎ (HasBadNumbers f ⊎ (((f ≡ Memory) ⊎ (f ≡ Start)) × IsRunnable))

-- the command writes the trace of the history that the workers make
abbrev pub runs : OptionsOf → List NamedBitOf → Command (List ℕ) RunReport
runs o named = record {
  Writes = IsOfRun o named;
  Reports = IsRunReport o named;
  Refuses = IsRunRefused o named;
  Spoils = IsStoppedEarly o named;
}
