use Rattle.bp_commands.proofs.Common.{◌≡◌, append-nil, arith, false, nat_lt, and_then}
use Rattle.bp_commands.proofs.exploration_texts.put_grouped.Goals as goal

pub returns : goal.returns
returns g c =
    let n = c.args.number in
    let a : nat_lt n 1000 ≡ false = grind arith in
    let b : nat_lt n 1000000 ≡ false = grind arith in
    let d : nat_lt n 1000000000 ≡ false = grind arith in
    let thousands = and_then c.put_last_three-3.ensures c.put_last_three-4.ensures in
    rw (a, b, d) (simp append-nil at (and_then c.put_pieces-2.ensures (and_then c.put_last_three-2.ensures thousands)))
