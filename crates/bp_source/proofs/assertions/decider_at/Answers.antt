use Rattle.bp_source.proofs.Common.{◌≡◌, ◌∙◌, Some, ap, map, slice_get, sym, option_map, unwrap_or, slice_get-map, places_of, Place, next_decision, reading_of}
use Rattle.bp_source.proofs.SourceStatementLists.{got_item}
use Rattle.bp_source.proofs.assertions.decider_at.Goals as goal

pub returns-in-Some : goal.returns-in-Some
returns-in-Some c = λ x at.
    let xs = c.deref.result.now in
    let n = c.args.number in
    let next = λ (y : Place). next_decision y.left in
    let got = got_item c.get.result xs n c.get.ensures.lookup.0 c.get.ensures.lookup.1 in
    let found : Some c.in-Some.decider.now ≡ slice_get xs n = rw c.in-Some.is at got in
    let noted = ap (map reading_of) c.deref.ensures.value ∙ c.in_ok-deciders.ensures in
    let read : Some (reading_of c.in-Some.decider.now) ≡ Some (next_decision x.left) =
    ap (option_map reading_of) found ∙ sym (slice_get-map reading_of xs n) ∙ ap (λ ys. slice_get ys n) noted
    ∙ slice_get-map next (places_of c.args.procs.now) n ∙ ap (option_map next) at in
    ap (λ o. unwrap_or o (next_decision x.left)) read
