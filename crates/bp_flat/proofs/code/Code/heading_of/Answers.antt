use Rattle.bp_flat.proofs.Common.{rules, ◌≡◌, refl, option_map, Option, Some, None, Bor, option_copied}
use Rattle.bp_flat.specs.Flat as flat
use Rattle.bp_flat.specs.declared.headings.Heading.{Heading}
use Rattle.bp_flat.proofs.SlotsOfNames.{formals_of_procedure}
use Rattle.bp_flat.proofs.code.Code.heading_of.Goals as goal

formals_shown : (o : Option (Bor Heading)) → option_map (λ h. h.now.formals) o ≡ option_map (λ (k : flat.Heading). k.formals) (option_copied o)
formals_shown None = refl
formals_shown (Some h) = refl

pub returns-clause-program : goal.returns-clause-program
returns-clause-program c = search (rules, formals_shown, formals_of_procedure)
