-- The command `explore`.
use Rattle.std.specs.Prelude.{◌≡◌, ◌⊎◌, ℕ, List, [], Option, None, Some}
use Rattle.bp_syntax.specs.Ast.{Program}
use Rattle.bp_explore.specs.declared.explorations.Ending.{Ending}
use Rattle.bp_explore.specs.declared.explorations.Ending.TheVariants.{Found}
use Rattle.bp_explore.specs.Explorations.{IsExploration}
use Rattle.bp_flat.specs.Flat.{Flat}
use Rattle.bp_flat.specs.StandsFor.{StandsFor}
use Rattle.bp_machine.specs.declared.calls.Call.{Call}
use Rattle.bp_machine.specs.declared.calls.Report.{Report}
use Rattle.bp_machine.specs.Histories.{IsReport}
use Rattle.bp_machine.specs.Setups.{SetupOf}
use Rattle.bp_source.specs.declared.tasks.ContextBound.{ContextBound}
use Rattle.bp_source.specs.declared.tasks.ContextBound.TheVariants.{AsUsed, Kept}
use Rattle.bp_source.specs.declared.tasks.ExploreTask.{ExploreTask}
use Rattle.bp_trace.specs.TraceText.{trace_text}
use Rattle.bp_messages.specs.declared.errors.Error.{Error}
use Rattle.bp_messages.specs.declared.errors.Error.TheVariants.{Memory}
use Rattle.bp_commands.specs.Commands.{Command}
use Rattle.bp_commands.specs.Programs.{IsNotOpened, IsOpened}
use Rattle.bp_commands.specs.ErrorReports.{AnswerRule}
use Rattle.bp_commands.specs.EndTexts.{AreEndTexts, AreNoTexts}
use Rattle.bp_commands.specs.ExplorationEnds.{facts_of_ending, status_of}
use Rattle.bp_commands.specs.ExplorationTexts.{exploration_text}
use Rattle.bp_commands.specs.declared.end_texts.EndTexts.{EndTexts}
use Rattle.bp_commands.specs.declared.exploration_ends.Exploration.{Exploration}

abbrev pub of_exploration : AnswerRule Exploration
of_exploration = record { status = status_of; summary = exploration_text }

-- the trace of the run that was found, if there is one
abbrev pub trace_of : Ending → List ℕ
trace_of (Found r) = trace_text r.session.setup r.history.items
trace_of other = []

-- the most contexts of the runs to explore, if there is a bound
abbrev pub bound_of : ContextBound → (contexts : ℕ) → Option ℕ
bound_of Kept k = Some k
bound_of AsUsed k = None

-- this is said of the end of a history of the program of a text, under the task
abbrev pub IsEndSaid
    : ExploreTask → (text : List ℕ) → Program → SetupOf → List Call → EndTexts → Type 0
IsEndSaid x text t s h said =
    (r : Report) × IsReport s h r × AreEndTexts x.json x.program.now text t s h r said

-- this is said of the finding
abbrev pub IsFindingSaid
    : ExploreTask → (text : List ℕ) → Program → Ending → EndTexts → Type 0
IsFindingSaid x text t (Found r) said = IsEndSaid x text t r.session.setup r.history.items said
IsFindingSaid x text t other said = AreNoTexts x.json said

-- The runs of the program of a text are explored, under the options of the task.
module _ (x : ExploreTask) (text : List ℕ) where
  -- this is the result, and the text written of it
  pub record IsExplorationTrace (written : List ℕ) : Type 0 where
    pub program : Program
    pub setup : SetupOf
    pub opened : IsOpened x.start x.named text program setup
    pub code : Flat
    pub stands_for : StandsFor code program
    pub ending : Ending
    pub explored :
        let bound = bound_of x.options.bound setup.contexts in
        IsExploration code program setup bound x.options.with_deadlock ending
    pub is : written ≡ trace_of ending

  -- this is also its report
  pub record IsOfExploration (written : List ℕ) (answer : Exploration) : Type 0 where
    pub trace : IsExplorationTrace written
    pub task : answer.task.now ≡ x
    pub facts : answer.facts ≡ facts_of_ending trace.ending
    pub steps : answer.steps ≡ None
    pub said : IsFindingSaid x text trace.program trace.ending answer.said

  -- the program accepts the setup, and memory was refused
  pub record LacksMemory (f : Error) : Type 0 where
    pub program : Program
    pub setup : SetupOf
    pub opened : IsOpened x.start x.named text program setup
    pub is : f ≡ Memory

-- the command writes the trace of the run that was found, or nothing
abbrev pub explores : ExploreTask → Command (List ℕ) Exploration
explores x = record {
  Writes = IsExplorationTrace x;
  Reports = IsOfExploration x;
  Refuses = λ text f. IsNotOpened x.start x.named text f ⊎ LacksMemory x text f;
  Spoils = λ _ _ _. ⊥;
}
