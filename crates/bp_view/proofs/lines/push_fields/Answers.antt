use Rattle.bp_view.proofs.Common.{◌∙◌, ◌+◌, ◌%◌, ◌^◌, ◌<◌, refl, rules, facts_in}
use Rattle.bp_view.proofs.ShownLines.{fields_are}
use Rattle.bp_view.proofs.lines.push_fields.Goals as goal

pub returns : goal.returns
returns c =
    let f = facts_in c.args.facts.now in
    let fits : f.number < 2 ^ 64 = search rules in
    let fields = fields_are c.args.widths.now f c.mark.result (48 + f.number % 10) fits c.mark.ensures refl in
    rw (c.deref.ensures.value ∙ c.in-Ok.ensures ∙ fields) at c.put.ensures
