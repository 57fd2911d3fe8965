use Rattle.bp_flat.proofs.Common.{◌≤◌, ap, sym, nat_eq, arith, bit_at_above}
use Rattle.bp_flat.proofs.variables.bit_of.Goals as goal

-- no bit is past the word
pub returns-then-slot-ge-SLOTS : goal.returns-then-slot-ge-SLOTS
returns-then-slot-ge-SLOTS c =
    let past : 128 ≤ c.args.slot = grind arith in
    sym (ap (λ b. nat_eq b 1) (bit_at_above c.args.word 128 c.args.slot c.ranges.word.fits past))
