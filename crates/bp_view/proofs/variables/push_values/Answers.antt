use Rattle.bp_view.proofs.Common.{◌≡◌, ◌∙◌, ◌+◌, ◌<◌, length, get_or, ap, add-one, arith, option_map, flat_map-append, bits_of, Bits}
use Rattle.bp_view.proofs.ChangedEntries.{values_more}
use Rattle.bp_view.proofs.Growth.{and_then, ends}
use Rattle.bp_view.proofs.variables.push_values.Goals as goal

pub loop-n-preserved : goal.loop-n-preserved
loop-n-preserved c =
    let xs = c.args.names.now in
    let bits : Bits = λ k. bits_of c.args.word (c.args.first + k) in
    let n = c.loop-n.n in
    let x = c.index-names-n.result in
    let owner = option_map (λ p. p.now) c.args.owner in
    let within : n < length xs = omega arith in
    let name : c.as_bytes.result.now ≡ (get_or xs n x).text = c.as_bytes.ensures.value ∙ c.text.ensures ∙ ap (λ y. y.text) c.index-names-n.is in
    let next = rw (name, c.bit_of-bit.ensures) at c.push_value.ensures in
    rw (add-one n, values_more owner xs n bits x within, flat_map-append) (and_then c.loop-n.invariant (ends next))
