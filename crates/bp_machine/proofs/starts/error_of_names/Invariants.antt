use Rattle.bp_machine.proofs.Common.{◌≡◌, drop, map, entries_error}
use Rattle.bp_machine.proofs.starts.error_of_names.Given as goal

abbrev pub invariant-loop-thread : goal.invariant-loop-thread
invariant-loop-thread l =
    entries_error l.code.tree 0 (map (λ n. n.now) l.entries)
    ≡ entries_error l.code.tree l.thread (drop l.thread (map (λ n. n.now) l.entries))
