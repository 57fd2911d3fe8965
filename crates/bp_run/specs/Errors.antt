-- The meaning for a run of a text without a code.
use Rattle.bp_code.specs.declared.texts.CodeError.{CodeError}
use Rattle.bp_code.specs.declared.texts.CodeError.TheVariants as code
use Rattle.bp_run.specs.declared.answers.RunError.{RunError}
use Rattle.bp_run.specs.declared.answers.RunError.TheVariants.{Program, Memory}

abbrev pub run_error_of_code : CodeError → RunError
run_error_of_code (code.Program f) = Program f
run_error_of_code code.Memory = Memory
