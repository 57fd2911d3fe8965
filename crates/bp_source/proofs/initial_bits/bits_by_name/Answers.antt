use Rattle.bp_source.proofs.Common.{◌≡◌, ◌∙◌, ap, sym, arith, NamedBitOf, named_bit, values_of, bit_of, is_set, NamedBit}
use Rattle.std.proofs.lemmas.Grind.{common_steps}
use Rattle.bp_source.proofs.NamedValues.{list_any-map}
use Rattle.bp_source.proofs.initial_bits.bits_by_name.Goals as goal

pub loop-global-preserved : goal.loop-global-preserved
loop-global-preserved c =
    let named = c.args.named.now in
    let name = c.as_bytes.result.now in
    let value = λ (it : NamedBit). named_bit it.name.now it.bit in
    let bit : c.bit_of.result ≡ bit_of (values_of named) c.global-item.result.text =
    c.bit_of.ensures
    ∙ sym (list_any-map (λ (it : NamedBitOf). is_set it name) value named)
    ∙ ap (bit_of (values_of named)) (c.as_bytes.ensures.value ∙ c.text.ensures) in
    grind (arith, common_steps, bit)
