use Rattle.btrun.proofs.Common.{map, string_bytes, arguments_error}
use Rattle.clap.specs.Words.{kind_of}
use Rattle.btrun.proofs.NoHelpEntered.{of_kinds}
use Rattle.btrun.proofs.arguments.no_tasks.read_arguments.Goals as goal

pub returns-in-Err-clause-refusal : goal.returns-in-Err-clause-refusal
returns-in-Err-clause-refusal c =
    of_kinds (arguments_error (map string_bytes c.args.arguments.now)) (kind_of c.in-Err.error) c.no_task.result c.in-Err.ensures.refusal c.no_task.ensures
