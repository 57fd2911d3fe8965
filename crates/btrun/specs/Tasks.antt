-- The job of a run, by its task.
use Rattle.std.specs.Prelude.{Bool, List, Option, None, Some, option_map, ℕ}
use Rattle.bp_commands.specs.Programs.{checks, lists}
use Rattle.bp_commands.specs.Commands.{Command, Pair}
use Rattle.bp_commands.specs.Traces.{drives, migrates, replays, shrinks}
use Rattle.bp_commands.specs.declared.explanations.SecondInput.TheVariants.{Schedule, Steps, Trace}
use Rattle.bp_commands.specs.ErrorReports.{done, of_report, of_run}
use Rattle.bp_source.specs.declared.tasks.ErrorFormat.{ErrorFormat}
use Rattle.bp_commands.specs.Jobs.{on_bundle, on_file, on_files, Job}
use Rattle.bp_commands.specs.Runs.{runs}
use Rattle.bp_commands.specs.Tests.{of_test, tests}
use Rattle.bp_commands.specs.Confirms.{confirms, of_confirm}
use Rattle.bp_commands.specs.Explores.{explores, of_exploration}
use Rattle.bp_commands.specs.Shows.{shows_task}
use Rattle.bp_commands.specs.Throughs.{explores_through}
use Rattle.bp_commands.specs.declared.shows.Screen.{Screen}
use Rattle.bp_machine.specs.declared.calls.Report.{Report}
use Rattle.bp_trace.specs.declared.limits.TheConstants.{MAX_SCHEDULE, MAX_TRACE}
use Rattle.bp_source.specs.ErrorFormats.{error_format}
use Rattle.bp_source.specs.declared.tasks.ExploreTask.{ExploreTask}
use Rattle.bp_source.specs.declared.tasks.Task.{Task}
use Rattle.bp_source.specs.declared.tasks.Task.TheVariants.{Bundle, Check, Code, Drive, Confirm, Run, Test, Explore, Replay, Show, Migrate, Shrink}

-- The files have these bytes by their paths. Standard output shows lines on this screen, and errors
-- are reported in this format.
module _ (bytes : List ℕ → Option (List ℕ)) (screen : Screen) (format : ErrorFormat) where
  -- a command on the program of a file and a trace of it
  abbrev pub on_trace : Command Pair Report → (program trace : List ℕ) → Job
  on_trace command program trace =
      on_files bytes format command of_report MAX_TRACE Trace program trace

  -- a program is explored under the options of a task, or for a run through the steps of a file
  abbrev pub explore_job : ExploreTask → (through : Option (List ℕ)) → Job
  explore_job task None = on_file bytes format (explores task) of_exploration task.program.now
  explore_job task (Some steps) =
      let command = explores_through task in
      on_files bytes format command of_exploration MAX_SCHEDULE Steps task.program.now steps

  -- the job of a task; standard input has these bytes
  abbrev pub job_in : (input : Option (List ℕ)) → Task → Job
  job_in input Bundle = on_bundle format input
  job_in input (Check task) =
      on_file bytes format (checks task.json) done task.program.now
  job_in input (Code task) =
      on_file bytes format (lists task.form) done task.program.now
  job_in input (Drive task) =
      let command = drives task.start task.named in
      let schedule = task.schedule.now in
      on_files bytes format command of_report MAX_SCHEDULE Schedule task.program.now schedule
  job_in input (Confirm task) =
      let steps = task.steps.now in
      on_files bytes format (confirms task) of_confirm MAX_SCHEDULE Steps task.program.now steps
  job_in input (Run task) =
      on_file bytes format (runs task.options task.named) of_run task.program.now
  job_in input (Test task) = on_file bytes format (tests task) of_test task.program.now
  job_in input (Explore task) = explore_job task (option_map (λ file. file.now) task.through)
  job_in input (Replay task) = on_trace replays task.program.now task.trace.now
  job_in input (Migrate task) = on_trace migrates task.program.now task.trace.now
  job_in input (Shrink task) = on_trace shrinks task.program.now task.trace.now
  job_in input (Show task) =
      on_trace (shows_task task screen) task.program.now task.trace.now

-- the job of a task, if standard error is a terminal or not
abbrev pub job_of
    : (bytes : List ℕ → Option (List ℕ)) → Screen → (on_terminal : Bool)
    → (input : Option (List ℕ)) → Task → Job
job_of bytes screen on_terminal input task =
    job_in bytes screen (error_format task on_terminal) input task
