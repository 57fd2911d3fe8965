use Rattle.bp_commands.proofs.Common.{and_then}
use Rattle.bp_commands.proofs.exploration_texts.put_within.Goals as goal

pub returns : goal.returns
returns g c =
    let sought = and_then c.put_sought.ensures (and_then c.put-4.ensures (and_then c.put_count-2.ensures c.put-5.ensures)) in
    let within = and_then c.put-2.ensures (and_then c.put_count.ensures (and_then c.put-3.ensures sought)) in
    and_then c.put.ensures (and_then c.put_program.ensures within)
