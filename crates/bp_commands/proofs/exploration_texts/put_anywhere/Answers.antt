use Rattle.bp_commands.proofs.Common.{and_then}
use Rattle.bp_commands.proofs.exploration_texts.put_anywhere.Goals as goal

pub returns-in-Some : goal.returns-in-Some
returns-in-Some g c = rw c.in-Some.is (rw c.in-Some.is at (and_then c.put-in-Some.ensures c.put_sought-in-Some.ensures))
