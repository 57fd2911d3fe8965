use Rattle.bp_source.proofs.Common.{◌≡◌, ◌∙◌, ◌∷◌, ◌++◌, ap, sym}
use Rattle.std.proofs.lemmas.Bool.Decides.{Decides-eqb}
use Rattle.std.proofs.lemmas.Slice.Eq.{strip_prefix_is}
use Rattle.bp_source.proofs.DecidersOfPlaces.{no_owner, qualified_parts}
use Rattle.bp_source.proofs.names.own_name.Goals as goal

pub returns-in_default : goal.returns-in_default
returns-in_default c =
    let text = c.args.text.now in
    let own = c.args.procedure.now in
    no_owner text own (rw c.in_default.is at (strip_prefix_is Decides-eqb text own c.strip_prefix.result c.strip_prefix.ensures.cases))

pub returns : goal.returns
returns c =
    let text = c.args.text.now in
    let own = c.args.procedure.now in
    let name = c.in-Some-split_first.own.now in
    let begun : text ≡ own ++ c.in-Some.rest.now =
    rw c.in-Some.is at (strip_prefix_is Decides-eqb text own c.strip_prefix.result c.strip_prefix.ensures.cases) in
    let dotted : c.in-Some.rest.now ≡ 46 ∷ name = c.in-Some-split_first.ensures.cases.0 ∙ ap (λ b. b ∷ name) c.if-first-ne46.false in
    begun ∙ ap (λ rest. own ++ rest) dotted ∙ sym (qualified_parts own name)
