use Rattle.btrun.proofs.Common.{◌∙◌, subst, sym, rules, map, string_bytes, IsOurs}
use Rattle.btrun.specs.Commands.{IsTaskOf}
use Rattle.btrun.proofs.NoHelpEntered.{named_ours}
use Rattle.btrun.proofs.ArgumentErrors.{cleared, named, refused, misused, fine_erroneous}
use Rattle.btrun.proofs.arguments.commands.task_of_arguments.Goals as goal

pub returns-in_err-matches-clause-refusal : goal.returns-in_err-matches-clause-refusal
returns-in_err-matches-clause-refusal c =
    let kind = refused _ (map string_bytes c.args.arguments.now) c.in_ok-program.ensures c.in_err-matches.field-0.0 c.in_err-matches.ensures.kinds in
    search rules

pub returns-in-Some-clause-refusal : goal.returns-in-Some-clause-refusal
returns-in-Some-clause-refusal c =
    let arguments = map string_bytes c.args.arguments.now in
    let clean = cleared _ arguments c.in_ok-program.ensures c.in_ok-matches.ensures.kinds in
    let name = named _ arguments c.in_ok-program.ensures c.in_ok-matches.matches c.in_ok-matches.ensures.matches in
    misused arguments _ clean name c.in_ok-misuse_error.field-0 c.in-Some.misuse (sym c.misuse_of.ensures ∙ c.in-Some.is) c.in_ok-misuse_error.ensures

pub task_of-requires : goal.task_of-requires
task_of-requires c =
    let arguments = map string_bytes c.args.arguments.now in
    let clean = cleared _ arguments c.in_ok-program.ensures c.in_ok-matches.ensures.kinds in
    let name = named _ arguments c.in_ok-program.ensures c.in_ok-matches.matches c.in_ok-matches.ensures.matches in
    subst IsOurs (sym name) (named_ours arguments clean)

pub returns-clause-task : goal.returns-clause-task
returns-clause-task c =
    let arguments = map string_bytes c.args.arguments.now in
    let name = named _ arguments c.in_ok-program.ensures c.in_ok-matches.matches c.in_ok-matches.ensures.matches in
    subst (λ o. IsTaskOf o c.in_ok-task_of.field-0) name c.in_ok-task_of.ensures

pub returns-clause-refusal : goal.returns-clause-refusal
returns-clause-refusal c =
    let arguments = map string_bytes c.args.arguments.now in
    let clean = cleared _ arguments c.in_ok-program.ensures c.in_ok-matches.ensures.kinds in
    let name = named _ arguments c.in_ok-program.ensures c.in_ok-matches.matches c.in_ok-matches.ensures.matches in
    fine_erroneous arguments _ clean name (sym c.misuse_of.ensures ∙ c.in_default.is)
