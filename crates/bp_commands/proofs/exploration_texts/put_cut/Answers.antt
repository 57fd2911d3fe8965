use Rattle.bp_commands.proofs.Common.{◌≡◌, ◌==◌, arith, false, and_then}
use Rattle.bp_commands.proofs.exploration_texts.put_cut.Goals as goal

pub returns : goal.returns
returns g c =
    let some : (c.args.states == 0) ≡ false = grind arith in
    rw some (and_then c.put-2.ensures (and_then c.put_count.ensures (and_then c.put-3.ensures c.put-4.ensures)))
