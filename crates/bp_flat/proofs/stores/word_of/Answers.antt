use Rattle.bp_flat.proofs.Common.{◌∙◌, slice_get-get_or, bits_of}
use Rattle.bp_flat.proofs.WordBits.{bits_from_more}
use Rattle.bp_flat.proofs.stores.word_of.Goals as goal

pub loop-i-preserved : goal.loop-i-preserved
loop-i-preserved c =
    let bits = c.args.bits.now in
    c.with_bit-word.ensures
    ∙ bits_from_more bits c.loop-i.i _ (bits_of c.loop-i.word)
    (slice_get-get_or bits c.loop-i.i _ c.loop-i-test.true) c.loop-i.invariant
