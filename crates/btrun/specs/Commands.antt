-- The task for the arguments of the command line. The rules of `clap` divide them into commands,
-- options and values.
use Rattle.std.specs.Prelude.{◌≡◌, true, List, [], ◌∷◌, Option, Some, None, codes, map, pos}
use Rattle.clap.specs.Faults.{fault_of, is_simple_and_free}
use Rattle.clap.specs.Kinds.{Kinds, or_else}
use Rattle.clap.specs.Lexer.{usize_max}
use Rattle.clap.specs.Walk.{Row, Rule, Text}
use Rattle.clap.specs.Simple.{App, new_app, new_rule, on_top, subcommand_of, with_rule, with_subcommand}
use Rattle.clap.specs.declared.builder.action.ArgAction.TheVariants.{SetTrue}
use Rattle.clap.specs.declared.builder.value_parser.ValueParser.TheVariants as parser
use Rattle.btrun.specs.declared.arguments.rows.Row.{Row as TableRow}
use Rattle.btrun.specs.declared.arguments.rows.Row.TheVariants as row
use Rattle.btrun.specs.declared.arguments.table.Named.{Named}
use Rattle.btrun.specs.declared.arguments.table.Named.TheVariants as name
use Rattle.btrun.specs.declared.arguments.table.TheConstants.{NAMED}
use Rattle.btrun.specs.Values.{command_name, IsNamed}
use Rattle.btrun.specs.Misuses.{misuse_kinds}
use Rattle.btrun.specs.CommandArguments.{IsCheckArgumentsOf, IsCodeArgumentsOf, IsConfirmOf, IsDriveOf, IsExploreOf, IsRunOf, IsShowOf, IsTestOf, IsTraceArgumentsOf}
use Rattle.bp_source.specs.declared.tasks.CheckTask.{CheckTask}
use Rattle.bp_source.specs.declared.tasks.CodeTask.{CodeTask}
use Rattle.bp_source.specs.declared.tasks.ConfirmTask.{ConfirmTask}
use Rattle.bp_source.specs.declared.tasks.DriveTask.{DriveTask}
use Rattle.bp_source.specs.declared.tasks.ExploreTask.{ExploreTask}
use Rattle.bp_source.specs.declared.tasks.RunTask.{RunTask}
use Rattle.bp_source.specs.declared.tasks.ShowTask.{ShowTask}
use Rattle.bp_source.specs.declared.tasks.Task.{Task}
use Rattle.bp_source.specs.declared.tasks.Task.TheVariants.{Bundle, Check, Code, Drive, Confirm, Run, Test, Explore, Replay, Show, Migrate, Shrink}
use Rattle.bp_source.specs.declared.tasks.TestTask.{TestTask}
use Rattle.bp_source.specs.declared.tasks.TraceTask.{TraceTask}

-- a required argument
abbrev pub required_rule : Text → Rule
required_rule name = record (new_rule name) { required = true }

-- an option without a value
abbrev pub flag_rule : Text → Rule
flag_rule name = record (new_rule name) { long = Some name; action = Some SetTrue }

-- an option that has a value
abbrev pub option_rule : Text → Rule
option_rule name = record (new_rule name) { long = Some name; value_names = 1 }

-- an option whose value is a number of 32 bits
abbrev pub number_rule : Text → Rule
number_rule name =
    record (option_rule name) { parser = Some (parser.Signed (pos 0) (pos 4294967295)) }

-- an option whose value is a number of 64 bits
abbrev pub long_number_rule : Text → Rule
long_number_rule name =
    record (option_rule name) { parser = Some (parser.Unsigned 0 18446744073709551615) }

-- an argument with any number of values
abbrev pub values_rule : Text → Rule
values_rule name =
    record (new_rule name) {
      range = Some (record { start_inclusive = 0; end_inclusive = usize_max });
    }

-- the arguments in turn
abbrev pub with_rules : App → List Rule → App
with_rules a [] = a
with_rules a (r ∷ rs) = with_rules (with_rule a r) rs

-- the argument of a row
abbrev pub row_rule : TableRow → Rule
row_rule (row.Required name help) = required_rule name.now
row_rule (row.Values name help) = values_rule name.now
row_rule (row.Flag name help) = flag_rule name.now
row_rule (row.Number name help) = number_rule name.now
row_rule (row.LongNumber name help) = long_number_rule name.now
row_rule (row.Text name value help) = option_rule name.now

-- the first arguments of each command on a file: `FILE [--explain] [--no-explain]`
abbrev pub file_rules : List Rule
file_rules =
    required_rule (codes "FILE")
    ∷ flag_rule (codes "explain")
    ∷ flag_rule (codes "no-explain")
    ∷ []

-- `TRACE`: of `replay`, `migrate` and `shrink`
abbrev pub trace_rules : List Rule
trace_rules = required_rule (codes "TRACE") ∷ []

-- the further arguments of each command
abbrev pub command_rules : Named → List Rule
-- `[--json]`
command_rules name.Check = flag_rule (codes "json") ∷ []
-- `[--source] [--json]`
command_rules name.Code =
    flag_rule (codes "source")
    ∷ flag_rule (codes "json")
    ∷ []
-- `SCHEDULE [ENTRY].. [--contexts N] [--calls N] [--init BITS]`
command_rules name.Drive =
    required_rule (codes "SCHEDULE")
    ∷ values_rule (codes "ENTRY")
    ∷ number_rule (codes "contexts")
    ∷ number_rule (codes "calls")
    ∷ option_rule (codes "init")
    ∷ []
-- `STEPS [ENTRY].. [--contexts N] [--calls N] [--init BITS] [--expect END] [--json]`
command_rules name.Confirm =
    required_rule (codes "STEPS")
    ∷ values_rule (codes "ENTRY")
    ∷ number_rule (codes "contexts")
    ∷ number_rule (codes "calls")
    ∷ option_rule (codes "init")
    ∷ option_rule (codes "expect")
    ∷ flag_rule (codes "json")
    ∷ []
-- `[ENTRY].. [--seed N] [--contexts N] [--calls N] [--init BITS]`
command_rules name.Run =
    values_rule (codes "ENTRY")
    ∷ long_number_rule (codes "seed")
    ∷ number_rule (codes "contexts")
    ∷ number_rule (codes "calls")
    ∷ option_rule (codes "init")
    ∷ []
-- `[ENTRY].. [--seed N] [--contexts N] [--calls N] [--init BITS] [--runs N] [--time N]
-- [--jobs N] [--deadlock] [--unreached] [--json]`
command_rules name.Test =
    values_rule (codes "ENTRY")
    ∷ long_number_rule (codes "seed")
    ∷ number_rule (codes "contexts")
    ∷ number_rule (codes "calls")
    ∷ option_rule (codes "init")
    ∷ long_number_rule (codes "runs")
    ∷ long_number_rule (codes "time")
    ∷ number_rule (codes "jobs")
    ∷ flag_rule (codes "deadlock")
    ∷ flag_rule (codes "unreached")
    ∷ flag_rule (codes "json")
    ∷ []
-- `[ENTRY].. [--contexts N] [--init BITS] [--states N] [--time N] [--deadlock]
-- [--through STEPS] [--json]`
command_rules name.Explore =
    values_rule (codes "ENTRY")
    ∷ number_rule (codes "contexts")
    ∷ option_rule (codes "init")
    ∷ long_number_rule (codes "states")
    ∷ long_number_rule (codes "time")
    ∷ flag_rule (codes "deadlock")
    ∷ option_rule (codes "through")
    ∷ flag_rule (codes "json")
    ∷ []
-- `TRACE [--thread N] [--last N] [--from N] [--to N] [--watch NAMES] [--fold] [--state] [--brief]
-- [--valid] [--at N] [--contexts] [--steps] [--json]`
command_rules name.Show =
    required_rule (codes "TRACE")
    ∷ number_rule (codes "thread")
    ∷ long_number_rule (codes "last")
    ∷ long_number_rule (codes "from")
    ∷ long_number_rule (codes "to")
    ∷ option_rule (codes "watch")
    ∷ flag_rule (codes "fold")
    ∷ flag_rule (codes "state")
    ∷ flag_rule (codes "brief")
    ∷ flag_rule (codes "valid")
    ∷ long_number_rule (codes "at")
    ∷ flag_rule (codes "contexts")
    ∷ flag_rule (codes "steps")
    ∷ flag_rule (codes "json")
    ∷ []
command_rules name.Replay = trace_rules
command_rules name.Migrate = trace_rules
command_rules name.Shrink = trace_rules

-- its arguments under the heading 'Advanced'; `run`: `[--turn N] [--ring N] [--spread]`
abbrev pub advanced_rules : Named → List Rule
advanced_rules name.Run =
    number_rule (codes "turn")
    ∷ number_rule (codes "ring")
    ∷ flag_rule (codes "spread")
    ∷ []
advanced_rules command = []

-- the command of each name
abbrev pub command_app : Named → App
command_app command =
    let file = with_rules (new_app (command_name command)) file_rules in
    with_rules (with_rules file (command_rules command)) (advanced_rules command)

-- the program without a command
abbrev pub program_app : App
program_app = on_top (λ s. record s { has_version = true }) (new_app (codes "btrun"))

-- the commands in turn
abbrev pub with_commands : App → List App → App
with_commands a [] = a
with_commands a (c ∷ cs) = with_commands (with_subcommand a c.top) cs

-- all commands
abbrev pub btrun_app : App
btrun_app = with_commands program_app (map command_app NAMED)

-- A device: both programs read these arguments alike, and the rules of `clap` cover the first.
pub record ReadsAlike (a b : App) (arguments : List Text) : Type 0 where
  pub exact : is_simple_and_free a ≡ true
  pub kinds : fault_of a arguments ≡ fault_of b arguments
  pub rows : subcommand_of a arguments ≡ subcommand_of b arguments

-- the arguments name no command, or an existing one
abbrev pub IsOurs : Option (Text × List Row) → Type 0
IsOurs None = Unit {0}
IsOurs (Some command) = IsNamed command.0

-- the task is that of a command with its arguments
abbrev pub IsTaskOfCommand : Named → List Row → Task → Type 0
IsTaskOfCommand name.Check rows task =
    (t : CheckTask) × (task ≡ Check t) × IsCheckArgumentsOf rows t
IsTaskOfCommand name.Code rows task =
    (t : CodeTask) × (task ≡ Code t) × IsCodeArgumentsOf rows t
IsTaskOfCommand name.Drive rows task = (t : DriveTask) × (task ≡ Drive t) × IsDriveOf rows t
IsTaskOfCommand name.Confirm rows task =
    (t : ConfirmTask) × (task ≡ Confirm t) × IsConfirmOf rows t
IsTaskOfCommand name.Run rows task = (t : RunTask) × (task ≡ Run t) × IsRunOf rows t
IsTaskOfCommand name.Test rows task = (t : TestTask) × (task ≡ Test t) × IsTestOf rows t
IsTaskOfCommand name.Explore rows task =
    (t : ExploreTask) × (task ≡ Explore t) × IsExploreOf rows t
IsTaskOfCommand name.Show rows task = (t : ShowTask) × (task ≡ Show t) × IsShowOf rows t
IsTaskOfCommand name.Replay rows task =
    (t : TraceTask) × (task ≡ Replay t) × IsTraceArgumentsOf rows t
IsTaskOfCommand name.Migrate rows task =
    (t : TraceTask) × (task ≡ Migrate t) × IsTraceArgumentsOf rows t
IsTaskOfCommand name.Shrink rows task =
    (t : TraceTask) × (task ≡ Shrink t) × IsTraceArgumentsOf rows t

-- the task of the arguments, by the command that they name; without one, a bundle
abbrev pub IsTaskOf : Option (Text × List Row) → Task → Type 0
IsTaskOf None task = task ≡ Bundle
IsTaskOf (Some (name, rows)) task =
    (command : Named) × (name ≡ command_name command) × IsTaskOfCommand command rows task

-- why arguments are refused: the error of `clap`, or else options that are wrong together or by
-- value
abbrev pub arguments_error : List Text → Kinds
arguments_error arguments =
    or_else (fault_of btrun_app arguments) (misuse_kinds (subcommand_of btrun_app arguments))
