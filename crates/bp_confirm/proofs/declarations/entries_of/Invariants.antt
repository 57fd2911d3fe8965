use Rattle.bp_confirm.proofs.Common.{◌≡◌, ◌≤◌, ◌-◌, length, map, take}
use Rattle.bp_confirm.proofs.declarations.entries_of.Given as goal

abbrev pub invariant-loop-name : goal.invariant-loop-name
invariant-loop-name l = record {
  within : l.thread ≤ length l.setup.entries;
  names : map (λ n. n.now) l.names.items ≡ take l.thread l.setup.entries;
}

abbrev pub decreases-loop-name : goal.decreases-loop-name
decreases-loop-name l = length l.setup.entries - l.thread
