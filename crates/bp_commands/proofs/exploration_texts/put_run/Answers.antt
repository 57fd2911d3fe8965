use Rattle.bp_commands.proofs.Common.{and_then}
use Rattle.bp_commands.proofs.exploration_texts.put_run.Goals as goal

pub returns-in-Some-default : goal.returns-in-Some-default
returns-in-Some-default g c =
    let end = rw c.as_slice-in-Some-default.ensures.value at c.put_made_end.ensures in
    rw c.in-Some-default.is-0 (and_then c.put-in-Some-default.ensures (and_then c.put_steps.ensures end))
