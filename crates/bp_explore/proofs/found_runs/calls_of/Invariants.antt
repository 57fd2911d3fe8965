use Rattle.bp_explore.proofs.Common.{◌≡◌, ◌≤◌, length, take, calls_of_thread}
use Rattle.bp_explore.proofs.found_runs.calls_of.Given as goal

abbrev pub invariant-loop-call : goal.invariant-loop-call
invariant-loop-call l = record {
  few : l.count ≤ l.call-index;
  counted : l.count ≡ length (calls_of_thread l.thread (take l.call-index l.calls));
}
