use Rattle.bp_view.proofs.Common.{◌∙◌, List, map, ap, refl, Change, entry_of, context_in}
use Rattle.bp_view.proofs.Growth.{gains}
use Rattle.bp_view.proofs.contexts.push_context.Goals as goal

pub returns : goal.returns
returns c = λ t text s h set is.
    let filled = c.in-Ok.ensures t text s h c.args.number set.program is in
    let changes = ap (λ (xs : List Change). map entry_of xs) c.deref.ensures.value ∙ filled in
    let facts = context_in c.facts_of_context-facts.result in
    gains c.push_context_in.ensures (record { facts = facts; facts_are = c.facts_of_context-facts.ensures.facts t text s h set.program is changes; is = refl })
