use Rattle.btrun.proofs.Common.{◌∙◌, sym, subst, map, string_bytes, btrun_app}
use Rattle.btrun.proofs.NoHelpEntered.{if_ok}
use Rattle.btrun.proofs.OneCommand.{itself, named_second}
use Rattle.btrun.specs.Commands.{ReadsAlike}
use Rattle.btrun.proofs.arguments.commands.program_for.Goals as goal

pub returns-in-Some-command_named : goal.returns-in-Some-command_named
returns-in-Some-command_named c =
    let arguments = c.args.arguments.now in
    let named = sym c.as_str.ensures.value ∙ c.in-Some-command_named.ensures in
    let one = named_second string_bytes arguments c.in-Some.name.now c.in-Some-command_named.command c.in-Some.ensures.lookup.0 c.in-Some.ensures.lookup.1 named in
    if_ok c.program_with.result _ _ (λ x is. subst (λ a. ReadsAlike a btrun_app (map string_bytes arguments)) (sym is) one) c.program_with.ensures

pub returns : goal.returns
returns c =
    let arguments = map string_bytes c.args.arguments.now in
    if_ok c.program_with-2.result _ _ (λ x is. subst (λ a. ReadsAlike a btrun_app arguments) (sym is) (itself arguments)) c.program_with-2.ensures
