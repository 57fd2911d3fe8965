use Rattle.btrun.proofs.Common.{◌∙◌, ◌+◌, ap, drop, get_or, map, refl, sym, drop_more, app_of, command_app, with_commands, Check}
use Rattle.btrun.proofs.NoHelpEntered.{with_command}
use Rattle.btrun.proofs.arguments.commands.program_with.Goals as goal

pub loop-command-preserved : goal.loop-command-preserved
loop-command-preserved c =
    let old = c.loop-command.program in
    let i = c.loop-command.command-index in
    let all = c.args.commands.now in
    let next = get_or all i Check in
    let grown = with_command old c.in_ok-program.program _ (app_of old) (command_app next) refl c.in_ok-with_help.ensures c.in_ok-program.ensures in
    ap (λ a. with_commands a (map command_app (drop (i + 1) all))) grown
    ∙ ap (λ cs. with_commands (app_of old) (map command_app cs)) (sym (drop_more all i Check c.loop-command-test.true))
    ∙ c.loop-command.invariant
