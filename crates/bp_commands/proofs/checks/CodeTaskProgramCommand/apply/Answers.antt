use Rattle.bp_commands.proofs.Common.{refl, err_from_is_err_and, lists}
use Rattle.bp_code.specs.declared.texts.CodeError.TheVariants as code
use Rattle.bp_commands.proofs.Answered.{refused_with}
use Rattle.bp_commands.proofs.checks.CodeTaskProgramCommand.apply.Goals as goal

pub returns-in_err-checked : goal.returns-in_err-checked
returns-in_err-checked g c =
    let p = err_from_is_err_and c.from_residual.result c.from_residual.ensures.1 in
    rw (p.1, p.2) (refused_with (lists c.args.self.now.form) c.args.text.now _ _
    (record { cause = code.Program c.in_err-checked.field-0.0; why = c.in_err-checked.ensures; is = refl }))
