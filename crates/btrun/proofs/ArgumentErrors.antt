-- The kind of error that refuses arguments, from the result of a parse of them.
use Rattle.btrun.proofs.Common.{◌≡◌, ◌∙◌, ap, ap₂, sym, subst, inl, inr, true, List, Option, Some, None, [], ◌∷◌, arith, HasKind, Kinds, or_else, App, HasMatchesOf, app_of, is_simple, subcommand_of, subcommand_rows_of, fault_of, is_simple_and_free, Row, Text, Command, btrun_app, arguments_error, misuse_kinds, misuse_kind, misuse_of}
use Rattle.std.specs.Option.{option_map_or}
use Rattle.btrun.specs.Commands.{ReadsAlike}
use Rattle.clap.specs.Values.{kind_of}
use Rattle.clap.specs.declared.error.Error.{Error}
use Rattle.clap.specs.declared.parser.matches.ArgMatches.{ArgMatches}
use Rattle.btrun.specs.declared.arguments.misuses.Misuse.{Misuse}

simple : (a : App) → is_simple_and_free a ≡ true → is_simple a ≡ true
simple a given1 = grind (arith)

either_kind : (first next : Kinds) (e : Error) → HasKind first e → HasKind (or_else first next) e
either_kind first next e given1 = grind (arith)

module _ (command : Command) (arguments : List Text) (alike : ReadsAlike (app_of command) btrun_app arguments) where
  pub cleared : (is_simple_and_free (app_of command) ≡ true → fault_of (app_of command) arguments ≡ []) → fault_of btrun_app arguments ≡ []
  cleared kinds = sym alike.kinds ∙ kinds alike.exact

  pub named : (m : ArgMatches) → HasMatchesOf (app_of command) arguments m → subcommand_rows_of m ≡ subcommand_of btrun_app arguments
  named m matches = (matches (simple (app_of command) alike.exact)).1 ∙ alike.rows

  pub refused : (e : Error)
      → (is_simple_and_free (app_of command) ≡ true → HasKind (fault_of (app_of command) arguments) e)
      → HasKind (arguments_error arguments) e
  refused e kinds = either_kind (fault_of btrun_app arguments) _ e (subst (λ k. HasKind k e) alike.kinds (kinds alike.exact))

abbrev kinds_of : Option Misuse → Kinds
kinds_of m = option_map_or (λ m. misuse_kind m ∷ []) m []

module _ (arguments : List Text) (command : Option (Text × List Row)) (clean : fault_of btrun_app arguments ≡ [])
    (is : command ≡ subcommand_of btrun_app arguments) where
  pub erroneous : arguments_error arguments ≡ kinds_of (misuse_of command)
  erroneous = ap₂ (λ f c. or_else f (misuse_kinds c)) clean (sym is)

  pub misused : (e : Error) (m : Misuse) → misuse_of command ≡ Some m → kind_of e ≡ misuse_kind m → HasKind (arguments_error arguments) e
  misused e m bad kind = subst (λ kinds. HasKind kinds e) (sym (erroneous ∙ ap kinds_of bad)) (inr (inl kind))

  pub fine_erroneous : misuse_of command ≡ None → arguments_error arguments ≡ []
  fine_erroneous fine = erroneous ∙ ap kinds_of fine
