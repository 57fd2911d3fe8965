use Rattle.bp_commands.proofs.Common.{◌≡◌, ◌==◌, arith, false, and_then}
use Rattle.bp_commands.proofs.exploration_texts.put_first.Goals as goal

pub returns : goal.returns
returns g c =
    let some : (c.args.made == 0) ≡ false = grind arith in
    let last = and_then c.put-3.ensures (and_then c.put_grouped-2.ensures c.put-4.ensures) in
    rw some (and_then c.put-2.ensures (and_then c.put_grouped.ensures last))
