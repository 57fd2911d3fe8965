use Rattle.bp_commands.proofs.Common.{and_then}
use Rattle.bp_commands.proofs.exploration_texts.put_traceless.Goals as goal

pub returns-in-false-Some : goal.returns-in-false-Some
returns-in-false-Some g c =
    let it = rw c.it_text.ensures at c.put-in-false-Some.ensures in
    rw (c.in-false-Some.is-0, c.in-false-Some.is-1) (and_then c.put.ensures (and_then it (and_then c.put-in-false-Some-2.ensures c.put_count.ensures)))
