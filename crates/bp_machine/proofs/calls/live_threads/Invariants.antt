use Rattle.bp_machine.proofs.Common.{◌≡◌, ◌≤◌, live_below}
use Rattle.bp_machine.proofs.calls.live_threads.Given as goal

abbrev pub invariant-loop-thread : goal.invariant-loop-thread
invariant-loop-thread l = record {
  few : l.count ≤ l.thread;
  counted : l.count ≡ live_below l.thread l.setup l.history;
}
