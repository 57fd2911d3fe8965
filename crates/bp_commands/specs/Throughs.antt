-- The command `explore --through`.
use Rattle.std.specs.Prelude.{◌≡◌, ◌⊎◌, ℕ, List, [], Some, length}
use Rattle.bp_syntax.specs.Ast.{Program}
use Rattle.bp_confirm.specs.declared.confirmations.ConfirmError.{ConfirmError}
use Rattle.bp_confirm.specs.ConfirmedTexts.{AreTold, IsUntold}
use Rattle.bp_confirm.specs.OwnSteps.{listed_steps}
use Rattle.bp_confirm.specs.Steps.{StepLineOf}
use Rattle.bp_explore.specs.declared.explorations.ThroughEnding.{ThroughEnding}
use Rattle.bp_explore.specs.declared.explorations.ThroughEnding.TheVariants.{Found}
use Rattle.bp_explore.specs.ThroughExplorations.{IsThrough}
use Rattle.bp_flat.specs.Flat.{Flat}
use Rattle.bp_flat.specs.StandsFor.{StandsFor}
use Rattle.bp_machine.specs.Setups.{SetupOf}
use Rattle.bp_source.specs.declared.tasks.ExploreTask.{ExploreTask}
use Rattle.bp_trace.specs.TraceText.{trace_text}
use Rattle.bp_messages.specs.declared.errors.Error.{Error}
use Rattle.bp_messages.specs.declared.errors.Error.TheVariants.{Memory}
use Rattle.bp_messages.specs.ErrorTable.{error_of_steps}
use Rattle.bp_commands.specs.Commands.{Command, Pair}
use Rattle.bp_commands.specs.Programs.{IsNotOpened, IsOpened}
use Rattle.bp_commands.specs.ExplorationEnds.{facts_through, made_through}
use Rattle.bp_commands.specs.EndTexts.{AreNoTexts}
use Rattle.bp_commands.specs.Explores.{bound_of, IsEndSaid}
use Rattle.bp_commands.specs.declared.end_texts.EndTexts.{EndTexts}
use Rattle.bp_commands.specs.declared.exploration_ends.Exploration.{Exploration}

-- the trace of the run that was found, if there is one
abbrev pub trace_through : ThroughEnding → List ℕ
trace_through (Found r) = trace_text r.session.setup r.history.items
trace_through other = []

-- this is said of the run that was found
abbrev pub IsRunSaid
    : ExploreTask → (text : List ℕ) → Program → ThroughEnding → EndTexts → Type 0
IsRunSaid x text t (Found r) said = IsEndSaid x text t r.session.setup r.history.items said
IsRunSaid x text t other said = AreNoTexts x.json said

-- The runs of the program of a text are searched for one that makes the steps of another text,
-- under the options of the task.
module _ (x : ExploreTask) (given : Pair) where
  -- the program accepts this setup, and these are the steps
  pub record AreListed (t : Program) (s : SetupOf) (lines : List StepLineOf) : Type 0 where
    pub opened : IsOpened x.start x.named given.text t s
    pub told : AreTold t s given.input lines

  -- this is the result, and the text written of it
  pub record IsThroughTrace (written : List ℕ) : Type 0 where
    pub program : Program
    pub setup : SetupOf
    pub lines : List StepLineOf
    pub listed : AreListed program setup lines
    pub code : Flat
    pub stands_for : StandsFor code program
    pub ending : ThroughEnding
    pub through :
        let bound = bound_of x.options.bound setup.contexts in
        let steps = listed_steps program given.text lines in
        IsThrough code program setup steps bound ending
    pub is : written ≡ trace_through ending

  -- this is also its report
  pub record IsOfThrough (written : List ℕ) (answer : Exploration) : Type 0 where
    pub trace : IsThroughTrace written
    pub task : answer.task.now ≡ x
    pub facts : answer.facts ≡ facts_through trace.ending
    pub steps :
        let n = length trace.lines in
        answer.steps ≡ Some (record { count = n; made = made_through n trace.ending })
    pub said : IsRunSaid x given.text trace.program trace.ending answer.said

  -- the program accepts the setup, and the steps are not of its threads and variables
  pub record AreStepsUntold (f : Error) : Type 0 where
    pub program : Program
    pub setup : SetupOf
    pub opened : IsOpened x.start x.named given.text program setup
    pub cause : ConfirmError
    pub why : IsUntold program setup given.input cause
    pub is : f ≡ error_of_steps cause

  -- the program accepts the setup, there are steps, and memory was refused
  pub record LacksMemoryThrough (f : Error) : Type 0 where
    pub program : Program
    pub setup : SetupOf
    pub lines : List StepLineOf
    pub listed : AreListed program setup lines
    pub is : f ≡ Memory

  abbrev pub IsThroughRefused : Error → Type 0
  IsThroughRefused f =
      IsNotOpened x.start x.named given.text f ⊎ (AreStepsUntold f ⊎ LacksMemoryThrough f)

-- the command writes the trace of the run that was found, or nothing
abbrev pub explores_through : ExploreTask → Command Pair Exploration
explores_through x = record {
  Writes = IsThroughTrace x;
  Reports = IsOfThrough x;
  Refuses = IsThroughRefused x;
  Spoils = λ _ _ _. ⊥;
}
