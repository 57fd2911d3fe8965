use Rattle.bp_flat.proofs.WordBits.{bits_set, bits_cleared}
use Rattle.bp_flat.proofs.stores.with_bit.Goals as goal

pub returns-then-bit : goal.returns-then-bit
returns-then-bit c = rw c.if-bit.true (bits_set c.args.word c.args.slot c.requires)

pub returns-else-bit : goal.returns-else-bit
returns-else-bit c = rw c.if-bit.false (bits_cleared c.args.word c.args.slot c.ranges.word.fits c.requires)
