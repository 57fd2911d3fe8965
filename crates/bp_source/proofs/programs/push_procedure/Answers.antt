use Rattle.bp_source.proofs.Common.{[], ◌∷◌, codes, name_list}
use Rattle.bp_text.specs.Pieces.{string_text, key_text}
use Rattle.bp_source.proofs.DecidersOfPlaces.{first_joined, when_ok}
use Rattle.bp_source.proofs.programs.push_procedure.Goals as goal

pub returns : goal.returns
returns c =
    let p = c.args.proc.now in
    let named = codes ",{\"name\":" ∷ string_text p.name.text ∷ key_text (codes "formals") ∷ [] in
    let lists = name_list p.formals ∷ key_text (codes "locals") ∷ name_list p.locals ∷ codes "}" ∷ [] in
    when_ok c.push_three.result c.push_three.ensures (λ added.
    rw (
      added,
      c.deref-2.ensures.value,
      c.in_ok-push_names-2.ensures,
      c.clear-2.ensures.items,
      c.in_ok-push_four.ensures,
      c.deref.ensures.value,
      c.in_ok-push_names.ensures,
      c.clear.ensures.items,
    )
    (rw (c.as_bytes-name.ensures.value, c.text.ensures, c.name.ensures, c.formals.ensures, c.locals.ensures)
    (first_joined c.args.items.now.items named lists)))
