use Rattle.bp_machine.proofs.Common.{◌≡◌, ◌≤◌, length, take, calls_of_thread, ends_with_last}
use Rattle.bp_machine.proofs.calls.is_terminated.Given as goal

abbrev pub invariant-loop-call : goal.invariant-loop-call
invariant-loop-call l = record {
  few : l.count ≤ l.call-index;
  counted : l.count ≡ length (calls_of_thread l.thread (take l.call-index l.history));
  last : l.ended ≡ ends_with_last (calls_of_thread l.thread (take l.call-index l.history));
}
