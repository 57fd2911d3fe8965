use Rattle.bp_view.proofs.Common.{◌-◌, ◌≡◌, ◌+◌, ◌≤◌, ℕ, reverse, waits_like}
use Rattle.bp_view.proofs.filters.waits_before.Given as goal

pub record Counted (all left limit count : ℕ) : Type 0 where
  pub is : all ≡ count + left
  pub within : count ≤ limit

abbrev pub invariant-loop-count : goal.invariant-loop-count
invariant-loop-count l = Counted (waits_like l.call (reverse l.calls)) (waits_like l.call (reverse l.rest)) l.limit l.count

abbrev pub decreases-loop-count : goal.decreases-loop-count
decreases-loop-count l = l.limit - l.count
