use Rattle.bp_machine.proofs.Common.{◌≡◌, drop, map, string_bytes, entries_error}
use Rattle.bp_machine.proofs.setup_errors.error_of_entries.Given as goal

abbrev pub invariant-loop-thread : goal.invariant-loop-thread
invariant-loop-thread l =
    entries_error l.code.tree 0 (map string_bytes l.entries)
    ≡ entries_error l.code.tree l.thread (drop l.thread (map string_bytes l.entries))
