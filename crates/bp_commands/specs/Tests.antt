-- The command `test`.
use Rattle.std.specs.Prelude.{if◌then◌else◌, ◌≡◌, ◌<◌, ◌≤◌, ◌⊎◌, ℕ, Bool, true, false, List, [], None, Some, map}
use Rattle.bp_syntax.specs.Ast.{Program}
use Rattle.bp_flat.specs.StandsFor.{places_of}
use Rattle.bp_machine.specs.declared.calls.Report.{Report}
use Rattle.bp_machine.specs.declared.setup_errors.SetupError.TheVariants.{OutOfRange}
use Rattle.bp_machine.specs.Setups.{SetupOf}
use Rattle.bp_source.specs.declared.limits.TheConstants.{MAX_JOBS}
use Rattle.bp_source.specs.declared.tasks.TestTask.{TestTask}
use Rattle.bp_test.specs.Tallies.{AreCounts, AreDistinctRuns, MadeRun, HasReached}
use Rattle.bp_test.specs.Tests.{IsFound, IsSought, IsWrittenRun}
use Rattle.bp_messages.specs.declared.errors.Error.{Error}
use Rattle.bp_messages.specs.declared.errors.Error.TheVariants.{Memory}
use Rattle.bp_messages.specs.declared.summaries.TestReport.{TestReport}
use Rattle.bp_commands.specs.Commands.{Command}
use Rattle.bp_commands.specs.ErrorReports.{AnswerRule}
use Rattle.bp_messages.specs.ErrorTable.{error_of_setup, exit_status}
use Rattle.bp_commands.specs.Programs.{IsNotOpened, IsOpened}
use Rattle.bp_messages.specs.Notes.{has_found}
use Rattle.bp_messages.specs.Summaries.{summary_text}
use Rattle.bp_messages.specs.SummaryObjects.{summary_objects}
use Rattle.bp_source.specs.SourceStatements.{AreStatements}
use Rattle.bp_source.specs.StatementLines.{positions_of, AreStatementLines, AreUnreachedObjects}

-- a test has a summary, as JSON or not
abbrev pub of_test : AnswerRule TestReport
of_test = record {
  status = λ x. exit_status (has_found x.found) None;
  summary = λ x. if x.json then summary_objects x else summary_text x;
}

-- the lines of the program's statements, as JSON or not, if they are to be listed
abbrev pub AreListedAs
    : (unreached json : Bool) → (file text : List ℕ) → Program → List (List ℕ) → Type 0
AreListedAs false json file text t lines = lines ≡ []
AreListedAs true false file text t lines = AreStatementLines file text t lines
AreListedAs true true file text t lines = AreUnreachedObjects file text t lines

abbrev pub AreListed : TestTask → (text : List ℕ) → Program → List (List ℕ) → Type 0
AreListed x text t lines = AreListedAs x.unreached x.json x.program.now text t lines

-- the program of a text is tested, under the options of the task
module _ (x : TestTask) (text : List ℕ) where
  -- the program accepts the setup, and no more jobs are asked for than the maximum
  pub record IsTestable : Type 0 where
    pub program : Program
    pub setup : SetupOf
    pub opened : IsOpened x.start x.named text program setup
    pub few : x.options.jobs ≤ MAX_JOBS

  -- the trace of the first run that the test searches for
  pub record IsOfTest (written : List ℕ) : Type 0 where
    pub testable : IsTestable
    pub run : ℕ
    pub report : Report
    pub runs : List MadeRun
    pub first :
        let t = testable.program in
        IsWrittenRun t testable.setup x.options (Some []) (Some written)
        (λ s h. IsSought t s x.options.with_deadlock h) run report runs

  -- an empty output after the test, and the answer: the finding, and the counts and the marks of
  -- the runs up to it, that one included
  pub record IsTestReport (written : List ℕ) (tested : TestReport) : Type 0 where
    pub testable : IsTestable
    pub runs : List MadeRun
    pub found :
        let waiting = tested.waiting.items in
        IsFound testable.program testable.setup x.options (Some []) (Some written)
        tested.found tested.failed waiting runs
    pub counted : AreCounts testable.setup runs tested.counts
    pub distinct : AreDistinctRuns testable.program testable.setup runs tested.distinct
    pub reached : HasReached testable.program testable.setup runs tested.reached.items
    pub positions_are : tested.positions.items ≡ positions_of text testable.program
    pub statements_are :
        let statements = map (λ v. v.items) tested.statements.items in
        AreStatements text (places_of testable.program.procedures) statements
    pub file_is : tested.file.items ≡ x.program.now
    pub options_are : tested.options ≡ x.options
    pub setup_is : tested.setup ≡ testable.setup
    pub json_is : tested.json ≡ x.json
    pub lines : AreListed x text testable.program (map (λ v. v.items) tested.lines.items)

  -- the program accepts the setup, but the number of jobs is over the maximum
  pub record HasManyJobs (f : Error) : Type 0 where
    pub program : Program
    pub setup : SetupOf
    pub opened : IsOpened x.start x.named text program setup
    pub many : MAX_JOBS < x.options.jobs
    pub is : f ≡ error_of_setup OutOfRange

  -- memory was refused to a test of the program
  abbrev pub LacksMemory : Error → Type 0
  LacksMemory f = (f ≡ Memory) × IsTestable

  abbrev pub IsTestRefused : Error → Type 0
  IsTestRefused f = IsNotOpened x.start x.named text f ⊎ (HasManyJobs f ⊎ LacksMemory f)

-- The command writes the trace of the first run that the test searches for, or nothing. The
-- statements that no run reached are listed or not, and the summary is JSON or not.
abbrev pub tests : TestTask → Command (List ℕ) TestReport
tests x = record {
  Writes = IsOfTest x;
  Reports = IsTestReport x;
  Refuses = IsTestRefused x;
  Spoils = λ _ _ _. ⊥;
}
