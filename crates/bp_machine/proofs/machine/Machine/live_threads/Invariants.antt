use Rattle.bp_machine.proofs.Common.{◌≡◌, ◌≤◌, List, Program, Call, SetupOf, live_below, StandsAfter}
use Rattle.bp_machine.proofs.machine.Machine.live_threads.Given as goal

abbrev pub invariant-loop-thread : goal.invariant-loop-thread
invariant-loop-thread l = record {
  few : l.count ≤ l.thread-index;
  counted : (t : Program) (s : SetupOf) (h : List Call) → s.calls ≡ l.calls → StandsAfter t s l.self.state h → l.count ≡ live_below l.thread-index s h;
}
