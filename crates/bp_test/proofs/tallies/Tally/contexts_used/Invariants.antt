use Rattle.bp_test.proofs.Common.{◌≡◌, ◌<◌, ◌^◌, List, length, SetupOf, MadeRun, IsCounted}
use Rattle.bp_test.proofs.ContextLemmas.{AreSoFar}
use Rattle.bp_test.proofs.tallies.Tally.contexts_used.Given as goal

abbrev pub invariant-loop-contexts : goal.invariant-loop-contexts
invariant-loop-contexts l = record {
  items : l.runs-items ≡ l.self.contexts.items;
  so_far : (s : SetupOf) (runs : List MadeRun)
      → length runs < 2 ^ 64
      → IsCounted s runs l.self
      → AreSoFar runs l.contexts l.before l.used;
}
