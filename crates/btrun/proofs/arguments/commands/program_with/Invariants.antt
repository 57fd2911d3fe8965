use Rattle.btrun.proofs.Common.{◌≡◌, drop, map, app_of, command_app, with_commands}
use Rattle.btrun.specs.Commands.{program_app}
use Rattle.btrun.proofs.arguments.commands.program_with.Given as goal

abbrev pub invariant-loop-command : goal.invariant-loop-command
invariant-loop-command l =
    with_commands (app_of l.program) (map command_app (drop l.command-index l.commands)) ≡ with_commands program_app (map command_app l.commands)
