use Rattle.bp_view.proofs.Common.{◌≡◌, ◌∙◌, ◌<◌, None, length, get_or, ap, add-one, arith, flat_map-append}
use Rattle.bp_view.proofs.ChangedEntries.{bound_more}
use Rattle.bp_view.proofs.Growth.{and_then, ends}
use Rattle.bp_view.proofs.setup_lines.push_values.Goals as goal

pub loop-n-preserved : goal.loop-n-preserved
loop-n-preserved c =
    let xs = c.args.globals.now in
    let n = c.loop-n.n in
    let x = c.index-globals-n.result in
    let within : n < length xs = omega arith in
    let name : c.as_bytes-text.result.now ≡ (get_or xs n x).text = c.as_bytes-text.ensures.value ∙ c.text.ensures ∙ ap (λ y. y.text) c.index-globals-n.is in
    let next = rw (name, c.initial_bit.ensures) at c.push_value.ensures in
    rw (add-one n, bound_more None xs n c.args.setup.now.init x within, flat_map-append) (and_then c.loop-n.invariant (ends next))
