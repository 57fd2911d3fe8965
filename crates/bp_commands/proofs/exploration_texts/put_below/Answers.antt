use Rattle.bp_commands.proofs.Common.{◌≡◌, arith, false, nat_le, and_then}
use Rattle.bp_commands.proofs.exploration_texts.put_below.Goals as goal

pub returns : goal.returns
returns g c =
    let above : nat_le c.args.contexts 1 ≡ false = grind arith in
    let less = rw c.less_text.ensures at c.put-4.ensures in
    rw above (and_then c.put-2.ensures (and_then c.put_count.ensures (and_then c.put-3.ensures (and_then less c.put-5.ensures))))
