use Rattle.bp_machine.proofs.Common.{◌≡◌, ◌≤◌, ◌*◌, List, Program, Call, SetupOf, StandsAfter}
use Rattle.bp_machine.proofs.HistoriesAreRuns.{total}
use Rattle.bp_machine.proofs.machine.Machine.calls.Given as goal

abbrev pub invariant-loop-thread : goal.invariant-loop-thread
invariant-loop-thread l = record {
  few : l.sum ≤ l.thread-index * 4294967296;
  counted : (t : Program) (s : SetupOf) (h : List Call) → StandsAfter t s l.self.state h → l.sum ≡ total l.thread-index h;
}
