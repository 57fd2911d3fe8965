use Rattle.bp_machine.proofs.Common.{◌≡◌, ℕ, Some, length, slice_get, ChoicesOf, IsAt}
use Rattle.bp_machine.proofs.sessions.restart_choices.Given as goal

abbrev pub invariant-loop-thread : goal.invariant-loop-thread
invariant-loop-thread l = record {
  count : length l.choices.items ≡ l.thread;
  each : (i : ℕ) (c : ChoicesOf) → slice_get l.choices.items i ≡ Some c → IsAt c l.seed i 0;
}
