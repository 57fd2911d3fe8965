use Rattle.bp_commands.proofs.Common.{and_then}
use Rattle.bp_commands.proofs.exploration_texts.put_found.Goals as goal

pub returns : goal.returns
returns g c =
    let last = and_then c.put_traceless.ensures (and_then c.put-3.ensures c.put_below.ensures) in
    and_then c.put.ensures (and_then c.put_count.ensures (and_then c.put-2.ensures (and_then c.put_run.ensures last)))
