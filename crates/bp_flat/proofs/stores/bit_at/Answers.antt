use Rattle.bp_flat.proofs.Common.{◌≡◌, ◌∙◌, ap, nat_eq, ◌%◌, ◌-◌, ◌^◌, ◌/◌, arith, shr_and_one}
use Rattle.std.proofs.Math.Nat.{mod-eq_of_lt}
use Rattle.bp_flat.proofs.WordBits.{low_bit, high_bit}
use Rattle.bp_flat.proofs.stores.bit_at.Goals as goal
use Rattle.bp_flat.proofs.stores.bit_at.Goals.{then-slot-lt64, else-slot-lt64}

pub returns : goal.returns
returns c =
    let word = c.args.word in
    let slot = c.args.slot in
    let half = c.if-slot-lt64.half in
    elim c.if-slot-lt64.branch [
      | then-slot-lt64 w ↦
          let same : slot % 64 ≡ slot = mod-eq_of_lt w.if-slot-lt64.true in
          rw (same, w.half-is) (ap (λ b. nat_eq b 1) (shr_and_one (word % 2 ^ 64) slot ∙ low_bit word slot w.if-slot-lt64.true))
      | else-slot-lt64 w ↦
          let above = w.if-slot-lt64.false in
          let less : slot % 64 ≡ slot - 64 = omega arith in
          rw (less, w.half-is) (ap (λ b. nat_eq b 1) (shr_and_one (word / 2 ^ 64) (slot - 64) ∙ high_bit word slot above))
    ]
