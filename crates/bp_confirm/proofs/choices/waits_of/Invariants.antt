use Rattle.bp_confirm.proofs.Common.{◌≡◌, ◌<◌, ℕ, List, false, length, get_or, Call, Stands, waits_after}
use Rattle.bp_confirm.proofs.choices.waits_of.Given as goal

abbrev pub invariant-loop-thread : goal.invariant-loop-thread
invariant-loop-thread l = record {
  size : length l.waits.items ≡ l.thread;
  each : (h : List Call)
      → Stands l.session.code.tree l.session h
      → (i : ℕ)
      → i < l.thread
      → get_or l.waits.items i false ≡ waits_after l.session.code.tree l.session.setup h i;
}
