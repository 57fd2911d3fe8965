-- The well-formed program of a text and its code, and why a text has none.
use Rattle.std.specs.Prelude.{ℕ, List, Option}
use Rattle.bp_syntax.specs.Ast.{Program}
use Rattle.bp_syntax.specs.Texts.{IsTextOf}
use Rattle.bp_syntax.specs.Refusals.{IsRefusal as IsReadRefusal, read_error_place}
use Rattle.bp_syntax.specs.Errors.{IsWellFormed, check_error_place}
use Rattle.bp_code.specs.Refusals.{IsRefusal}
use Rattle.bp_code.specs.declared.texts.ProgramError.{ProgramError}
use Rattle.bp_code.specs.declared.texts.ProgramError.TheVariants.{Read, Check}
use Rattle.bp_code.specs.declared.texts.CodeError.{CodeError}
use Rattle.bp_code.specs.declared.texts.CodeError.TheVariants as code

-- the text is that of a well-formed program
pub record IsWellFormedText (text : List ℕ) (t : Program) : Type 0 where
  pub derived : IsTextOf text t
  pub well_formed : IsWellFormed t

-- the text has an error, or its program has one
abbrev pub IsProgramRefusal : List ℕ → ProgramError → Type 0
IsProgramRefusal text (Read f) = IsReadRefusal text f
IsProgramRefusal text (Check f at) = (t : Program) × IsTextOf text t × IsRefusal t f at

-- why the text has no code
abbrev pub IsCodeRefusal : List ℕ → CodeError → Type 0
IsCodeRefusal text (code.Program f) = IsProgramRefusal text f
IsCodeRefusal text code.Memory = (t : Program) × IsWellFormedText text t

-- the byte of the text that the error names; refused memory names none
abbrev pub program_error_place : ProgramError → Option ℕ
program_error_place (Read f) = read_error_place f
program_error_place (Check f at) = check_error_place f at
