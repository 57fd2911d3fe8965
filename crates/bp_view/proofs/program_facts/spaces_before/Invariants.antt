use Rattle.bp_view.proofs.Common.{◌≡◌, ◌==◌, ◌<◌, ℕ, true, get_or}
use Rattle.bp_view.proofs.program_facts.spaces_before.Given as goal

abbrev pub invariant-loop-i : goal.invariant-loop-i
invariant-loop-i l = (k : ℕ) → k < l.i → (get_or l.text k 0 == 32) ≡ true
