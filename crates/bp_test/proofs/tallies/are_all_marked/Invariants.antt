use Rattle.bp_test.proofs.Common.{◌≡◌, ◌<◌, ℕ, true, is_marked}
use Rattle.bp_test.proofs.tallies.are_all_marked.Given as goal

abbrev pub invariant-loop-is_marked : goal.invariant-loop-is_marked
invariant-loop-is_marked l = (n : ℕ) → n < l.is_marked-index → is_marked l.marks n ≡ true
