use Rattle.bp_view.proofs.Common.{◌≡◌, ◌+◌, ◌<◌, take, length, max, ap, add-one, arith, longest}
use Rattle.bp_view.proofs.BegunViews.{longest_more, place_items}
use Rattle.bp_view.proofs.view_contexts.longest_place.Goals as goal

pub loop-statement-preserved : goal.loop-statement-preserved
loop-statement-preserved c =
    let statements = c.args.statements.now in
    let n = c.loop-statement.statement-index in
    let x = c.statement-item.result in
    let within : n < length statements = omega arith in
    let more = longest_more n statements x within in
    let size = ap (λ y. length y.place.items) c.statement-item.is in
    let here : c.max-longest.result ≡ max 1 (longest (place_items (take (n + 1) statements))) =
    rw (add-one n) (omega (arith, more, size, c.max-longest.ensures, c.len.ensures, c.loop-statement.invariant)) in
    here
