use Rattle.bp_commands.proofs.Common.{refl, err_from_is_err_and, IsProgramRefusal, checks}
use Rattle.bp_syntax.specs.declared.errors.CheckError.TheVariants.{Memory}
use Rattle.bp_code.specs.declared.texts.ProgramError.TheVariants.{Check}
use Rattle.bp_commands.proofs.Answered.{refused_with}
use Rattle.bp_commands.proofs.checks.CheckTaskProgramCommand.apply.Goals as goal

pub returns-in_err-program_object : goal.returns-in_err-program_object
returns-in_err-program_object g c =
    let p = err_from_is_err_and c.from_residual-in_err-program_object.result c.from_residual-in_err-program_object.ensures.1 in
    let why : IsProgramRefusal c.args.text.now (Check Memory 0) = (c.in_ok-checked.checked, c.in_ok-checked.ensures.derived, refl) in
    rw (p.1, p.2) (refused_with (checks c.args.self.now.json) c.args.text.now _ _ (record { cause = Check Memory 0; why = why; is = refl }))
