use Rattle.bp_confirm.proofs.Common.{◌≡◌, ◌≤◌, ◌+◌, ◌-◌, None, drop, length, map, opened, thread_of}
use Rattle.bp_confirm.proofs.declarations.contexts_used.Given as goal

abbrev pub invariant-loop-n : goal.invariant-loop-n
invariant-loop-n l = record {
  few : l.used ≤ l.n;
  used : l.used + opened l.last (map thread_of (drop l.n l.lines)) ≡ opened None (map thread_of l.lines);
}

abbrev pub decreases-loop-n : goal.decreases-loop-n
decreases-loop-n l = length l.lines - l.n
