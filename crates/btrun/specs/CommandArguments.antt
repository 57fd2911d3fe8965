-- The task for the arguments after each command.
use Rattle.std.specs.Prelude.{◌≡◌, if◌then◌else◌, List, codes, ℕ, None, Some, true, false, option_map, ◌+◌, ◌-◌, ◌^◌, Option, is_some, length, min}
use Rattle.clap.specs.Walk.{Row, one_of, first_of}
use Rattle.bp_machine.specs.Setups.{start_with}
use Rattle.bp_machine.specs.declared.limits.TheConstants.{DEFAULT_CONTEXTS, DEFAULT_CALLS, MAX_THREADS}
use Rattle.bp_source.specs.declared.tasks.CheckTask.{CheckTask}
use Rattle.bp_source.specs.declared.tasks.CodeTask.{CodeTask}
use Rattle.bp_source.specs.declared.tasks.ContextBound.{ContextBound}
use Rattle.bp_source.specs.declared.tasks.ContextBound.TheVariants.{AsUsed, Kept}
use Rattle.bp_source.specs.declared.tasks.ConfirmTask.{ConfirmTask}
use Rattle.bp_source.specs.declared.tasks.DriveTask.{DriveTask}
use Rattle.bp_source.specs.declared.tasks.ListingForm.{ListingForm}
use Rattle.bp_source.specs.declared.tasks.ListingForm.TheVariants as form
use Rattle.bp_source.specs.declared.limits.TheConstants.{DEFAULT_TURN, DEFAULT_SEED, DEFAULT_RING, DEFAULT_JOBS, DEFAULT_RUNS, DEFAULT_STATES}
use Rattle.bp_source.specs.declared.tasks.RunTask.{RunTask}
use Rattle.bp_source.specs.declared.tasks.ShowTask.{ShowTask}
use Rattle.bp_source.specs.declared.options.ViewFormat.{ViewFormat}
use Rattle.bp_source.specs.declared.options.ViewFormat.TheVariants.{Columns, Json}
use Rattle.bp_source.specs.declared.options.ViewOptions.{ViewOptions}
use Rattle.bp_source.specs.declared.tasks.TestTask.{TestTask}
use Rattle.bp_source.specs.declared.tasks.TraceTask.{TraceTask}
use Rattle.bp_source.specs.declared.tasks.ExploreTask.{ExploreTask}
use Rattle.btrun.specs.Values.{value_of, given_number, number_or, IsFlagOf, IsExplainingOf, entries_in, expected_in, init_in, named_in, start_in}

-- the file and the flags of `check` are those of its arguments
pub record IsCheckArgumentsOf (rows : List Row) (task : CheckTask) : Type 0 where
  pub program : task.program.now ≡ value_of (codes "FILE") rows
  pub json : IsFlagOf (one_of (codes "json") rows) task.json
  pub explain : IsExplainingOf rows task.explain

-- the listing is JSON if asked for, and otherwise has the source if asked for
abbrev pub IsFormOf : List Row → ListingForm → Type 0
IsFormOf rows form.Json = IsFlagOf (one_of (codes "json") rows) true
IsFormOf rows form.Sourced =
    IsFlagOf (one_of (codes "json") rows) false
    × IsFlagOf (one_of (codes "source") rows) true
IsFormOf rows form.Lines =
    IsFlagOf (one_of (codes "json") rows) false
    × IsFlagOf (one_of (codes "source") rows) false

-- the file and the flags of `code` are those of its arguments
pub record IsCodeArgumentsOf (rows : List Row) (task : CodeTask) : Type 0 where
  pub program : task.program.now ≡ value_of (codes "FILE") rows
  pub form : IsFormOf rows task.form
  pub explain : IsExplainingOf rows task.explain

-- as many contexts as are used are allowed, unless a number is given
abbrev pub bound_in : List Row → ContextBound
bound_in rows = if is_some (given_number 32 (codes "contexts") rows) then Kept else AsUsed

-- the files and the options of `confirm` are those of its arguments
pub record IsConfirmOf (rows : List Row) (task : ConfirmTask) : Type 0 where
  pub program : task.program.now ≡ value_of (codes "FILE") rows
  pub steps : task.steps.now ≡ value_of (codes "STEPS") rows
  pub start : task.start ≡ start_in DEFAULT_CONTEXTS rows
  pub named : task.named ≡ named_in rows
  pub bound : task.bound ≡ bound_in rows
  pub expected : task.expected ≡ expected_in rows
  pub json : IsFlagOf (one_of (codes "json") rows) task.json
  pub explain : IsExplainingOf rows task.explain

-- the files and the options of `drive` are those of its arguments
pub record IsDriveOf (rows : List Row) (task : DriveTask) : Type 0 where
  pub program : task.program.now ≡ value_of (codes "FILE") rows
  pub schedule : task.schedule.now ≡ value_of (codes "SCHEDULE") rows
  pub start : task.start ≡ start_in DEFAULT_CONTEXTS rows
  pub named : task.named ≡ named_in rows
  pub explain : IsExplainingOf rows task.explain

-- the file and the options of `run` are those of its arguments
pub record IsRunOf (rows : List Row) (task : RunTask) : Type 0 where
  pub program : task.program.now ≡ value_of (codes "FILE") rows
  pub start : task.options.start ≡ start_in DEFAULT_CONTEXTS rows
  pub named : task.named ≡ named_in rows
  pub turn : task.options.turn ≡ number_or DEFAULT_TURN 32 (codes "turn") rows
  pub seed : task.options.seed ≡ number_or DEFAULT_SEED 64 (codes "seed") rows
  pub ring : task.options.ring ≡ number_or DEFAULT_RING 32 (codes "ring") rows
  pub spread : IsFlagOf (one_of (codes "spread") rows) task.spread
  pub explain : IsExplainingOf rows task.explain

-- the view is JSON if asked for
abbrev pub IsViewFormatOf : List Row → ViewFormat → Type 0
IsViewFormatOf rows Json = IsFlagOf (one_of (codes "json") rows) true
IsViewFormatOf rows Columns = IsFlagOf (one_of (codes "json") rows) false

-- the attempts to show are those of the arguments, without colours and in lines of any width
pub record IsViewOf (rows : List Row) (options : ViewOptions) : Type 0 where
  pub thread : options.thread ≡ given_number 32 (codes "thread") rows
  pub last : options.last ≡ given_number 64 (codes "last") rows
  pub from : options.from ≡ given_number 64 (codes "from") rows
  pub to : options.to ≡ given_number 64 (codes "to") rows
  pub watch : option_map (λ s. s.now) options.watch ≡ first_of (codes "watch") rows
  pub fold : IsFlagOf (one_of (codes "fold") rows) options.fold
  pub state : IsFlagOf (one_of (codes "state") rows) options.has_state
  pub brief : IsFlagOf (one_of (codes "brief") rows) options.is_brief
  pub colour : options.has_colour ≡ false
  pub columns : options.columns ≡ None
  pub format : IsViewFormatOf rows options.format

-- the files of `show` and its view are those of its arguments
pub record IsShowOf (rows : List Row) (task : ShowTask) : Type 0 where
  pub program : task.program.now ≡ value_of (codes "FILE") rows
  pub trace : task.trace.now ≡ value_of (codes "TRACE") rows
  pub at : task.at ≡ given_number 64 (codes "at") rows
  pub contexts : IsFlagOf (one_of (codes "contexts") rows) task.contexts
  pub steps : IsFlagOf (one_of (codes "steps") rows) task.steps
  pub valid : IsFlagOf (one_of (codes "valid") rows) task.valid
  pub options : IsViewOf rows task.options
  pub explain : IsExplainingOf rows task.explain

-- the number of contexts that a test allows by default; a setup has at most MAX_THREADS threads
abbrev pub contexts_for : ℕ → ℕ
contexts_for threads = min threads MAX_THREADS + 1

-- the most runs that a test of this number of seconds makes by default: as many as 64 bits count
abbrev pub runs_within : (seconds : Option ℕ) → ℕ
runs_within None = DEFAULT_RUNS
runs_within (Some seconds) = 2 ^ 64 - 1

-- the file and the options of `test` are those of its arguments
pub record IsTestOf (rows : List Row) (task : TestTask) : Type 0 where
  pub program : task.program.now ≡ value_of (codes "FILE") rows
  pub start : task.start ≡ start_in (contexts_for (length task.start.entries)) rows
  pub named : task.named ≡ named_in rows
  pub seed : task.options.seed ≡ number_or DEFAULT_SEED 64 (codes "seed") rows
  pub runs :
      let most = runs_within task.options.seconds in
      task.options.runs ≡ number_or most 64 (codes "runs") rows
  pub time : task.options.seconds ≡ given_number 64 (codes "time") rows
  pub jobs : task.options.jobs ≡ number_or DEFAULT_JOBS 32 (codes "jobs") rows
  pub deadlock : IsFlagOf (one_of (codes "deadlock") rows) task.options.with_deadlock
  pub unreached : IsFlagOf (one_of (codes "unreached") rows) task.unreached
  pub json : IsFlagOf (one_of (codes "json") rows) task.json
  pub explain : IsExplainingOf rows task.explain

-- the files of `replay`, `migrate` and `shrink` are those of their arguments
pub record IsTraceArgumentsOf (rows : List Row) (task : TraceTask) : Type 0 where
  pub program : task.program.now ≡ value_of (codes "FILE") rows
  pub trace : task.trace.now ≡ value_of (codes "TRACE") rows
  pub explain : IsExplainingOf rows task.explain

-- the file and the options of `explore` are those of its arguments; the attempts are not bounded
pub record IsExploreOf (rows : List Row) (task : ExploreTask) : Type 0 where
  pub program : task.program.now ≡ value_of (codes "FILE") rows
  pub start :
      let contexts = number_or DEFAULT_CONTEXTS 32 (codes "contexts") rows in
      task.start ≡ start_with (entries_in rows) (init_in rows) contexts DEFAULT_CALLS
  pub named : task.named ≡ named_in rows
  pub through : option_map (λ file. file.now) task.through ≡ first_of (codes "through") rows
  pub bound : task.options.bound ≡ bound_in rows
  pub states : task.options.states ≡ number_or DEFAULT_STATES 64 (codes "states") rows
  pub time : task.options.seconds ≡ given_number 64 (codes "time") rows
  pub deadlock : IsFlagOf (one_of (codes "deadlock") rows) task.options.with_deadlock
  pub json : IsFlagOf (one_of (codes "json") rows) task.json
  pub explain : IsExplainingOf rows task.explain
