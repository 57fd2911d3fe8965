use Rattle.bp_view.proofs.Common.{◌-◌, ◌≡◌, ◌+◌, ◌≤◌, ℕ, waits_like}
use Rattle.bp_view.proofs.filters.waits_after.Given as goal

pub record Counted (all left limit count : ℕ) : Type 0 where
  pub is : all ≡ count + left
  pub within : count ≤ limit

abbrev pub invariant-loop-count : goal.invariant-loop-count
invariant-loop-count l = Counted (waits_like l.call l.calls) (waits_like l.call l.rest) l.limit l.count

abbrev pub decreases-loop-count : goal.decreases-loop-count
decreases-loop-count l = l.limit - l.count
