use Rattle.std.proofs.lemmas.Grind.{common_steps}
use Rattle.bp_machine.proofs.Common.{arith, rules}
use Rattle.bp_machine.proofs.Deadlocks.{seen_ended, seen_waiting, all_seen}
use Rattle.bp_machine.proofs.sessions.Session.is_deadlocked.Goals.{then-has_frames+else-not-waits, else-has_frames}
use Rattle.bp_machine.proofs.sessions.Session.is_deadlocked.Goals as goal

pub loop-thread-preserved : goal.loop-thread-preserved
loop-thread-preserved c = search (rules, then-has_frames+else-not-waits, seen_waiting, else-has_frames, seen_ended)

pub returns : goal.returns
returns c = grind (arith, common_steps, all_seen)
