use Rattle.bp_run.proofs.Common.{◌≡◌, ◌≤◌, Ok}
use Rattle.bp_run.proofs.workers.work.Given as goal

abbrev pub invariant-loop : goal.invariant-loop
invariant-loop g l = record {
  goes_on : l.done ≡ Ok tt;
  thread : l.seat.thread ≡ l.fn.seat.thread;
  calls : l.fn.seat.calls ≤ l.seat.calls;
}
