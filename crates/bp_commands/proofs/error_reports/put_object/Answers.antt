use Rattle.bp_commands.proofs.Common.{refl, option_map, subst, error_object, name_in, IsValueIn, IsObjectWith}
use Rattle.bp_confirm.specs.Steps.{value_of}
use Rattle.bp_commands.proofs.error_reports.put_object.Goals as goal

pub returns : goal.returns
returns g c =
    let given = c.args.given.now in
    let texts = g.G.Texts.given given in
    let message = c.args.message.now in
    let value = option_map value_of c.value_in-value.result in
    let value_is = subst (λ r. IsValueIn texts.input r.detail value) c.row.ensures
    (subst (λ t. IsValueIn t c.row.result.detail value) c.texts.ensures.1 c.value_in-value.ensures) in
    let object = error_object c.args.error.now (name_in c.file-file.result) texts.text value message in
    let is : IsObjectWith (g.G.Texts.is_in given) texts c.args.error.now message object =
    record { file = name_in c.file-file.result; named = c.file-file.ensures; value = value; value_is = value_is; is = refl } in
    (object, is, rw c.texts.ensures.0 at c.put_error_object.ensures)
