use Rattle.bp_commands.proofs.Common.{false, Some, ◌∙◌, refl, inl, IsTextOf}
use Rattle.bp_commands.proofs.error_reports.end_by_object.Goals as goal

pub returns-in-Ok-Some-clause-object : goal.returns-in-Ok-Some-clause-object
returns-in-Ok-Some-clause-object g c =
    let Explains = g.G.Texts.explains c.args.given.now c.args.error.now in
    let of : IsTextOf false Explains (Some c.in-Ok-Some.sentence) = rw c.in-Ok-Some.field-0-is at c.in-Ok-Some.ensures in
    let (e, explains, same) = of in
    let (object, is, written) = c.put_object-told.ensures in
    let said = inl (refl, inl (e, explains, c.as_slice.ensures.value ∙ same)) in
    rw c.told_by_object.ensures (object, record { message = c.as_slice.result.now; said = said; is = is }, written)
