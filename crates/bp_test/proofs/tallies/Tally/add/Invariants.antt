use Rattle.bp_test.proofs.Common.{◌≡◌, ◌+◌, ◌-◌, ◌^◌, ◌<◌, ◌≤◌, ℕ, min, max, true, take, ◌++◌, Some, slice_index_or, MAX_KEYS, is_marked, MarksGrow, capped, ends_sum}
use Rattle.bp_test.proofs.tallies.Tally.add.Given as goal

abbrev pub invariant-loop-used : goal.invariant-loop-used
invariant-loop-used l = record {
  items : l.runs-items ≡ l.other.contexts.items;
  count : l.self.runs ≡ min (l.fn.self.runs + l.other.runs) (2 ^ 64 - 1);
  calls : l.self.calls ≡ min (l.fn.self.calls + l.other.calls) (2 ^ 64 - 1);
  longest : l.self.longest ≡ max l.fn.self.longest l.other.longest;
  ends : l.self.ends ≡ ends_sum l.fn.self.ends l.other.ends;
  stepped : MarksGrow (λ i. Some i) (λ n. is_marked l.other.stepped.items n ≡ true) l.fn.self.stepped.items l.self.stepped.items;
  reached : MarksGrow (λ i. Some i) (λ n. is_marked l.other.reached.items n ≡ true) l.fn.self.reached.items l.self.reached.items;
  keys : l.self.keys.items ≡ take MAX_KEYS (l.fn.self.keys.items ++ l.other.keys.items);
  below : (k : ℕ) → k < l.used
      → slice_index_or l.self.contexts.items k 0
      ≡ capped (slice_index_or l.fn.self.contexts.items k 0 + slice_index_or l.other.contexts.items k 0);
  above : (k : ℕ) → l.used ≤ k → slice_index_or l.self.contexts.items k 0 ≡ slice_index_or l.fn.self.contexts.items k 0;
}
