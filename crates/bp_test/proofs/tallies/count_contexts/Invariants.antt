use Rattle.bp_test.proofs.Common.{◌≡◌, ◌+◌, ◌-◌, ℕ, vec_len, slice_index_or}
use Rattle.bp_test.proofs.tallies.count_contexts.Given as goal

abbrev pub invariant-loop-counts : goal.invariant-loop-counts
invariant-loop-counts l = (k : ℕ) → slice_index_or l.counts.items k 0 ≡ slice_index_or l.fn.counts.items k 0

abbrev pub decreases-loop-counts : goal.decreases-loop-counts
decreases-loop-counts l = l.used + 1 - vec_len l.counts
