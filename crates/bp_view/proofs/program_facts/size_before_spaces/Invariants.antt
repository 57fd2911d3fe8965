use Rattle.bp_view.proofs.Common.{◌≡◌, ◌==◌, ◌<◌, ◌≤◌, ℕ, true, length, get_or}
use Rattle.bp_view.proofs.program_facts.size_before_spaces.Given as goal

abbrev pub invariant-loop-size : goal.invariant-loop-size
invariant-loop-size l = record {
  within : l.size ≤ length l.text;
  spaces : (k : ℕ) → l.size ≤ k → k < length l.text → (get_or l.text k 0 == 32) ≡ true;
}

abbrev pub decreases-loop-size : goal.decreases-loop-size
decreases-loop-size l = l.size
