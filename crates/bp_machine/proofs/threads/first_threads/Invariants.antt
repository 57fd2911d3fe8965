use Rattle.bp_machine.proofs.Common.{◌≡◌, map, take, string_bytes, first_thread, guests}
use Rattle.bp_machine.proofs.threads.first_threads.Given as goal

abbrev pub invariant-loop-name : goal.invariant-loop-name
invariant-loop-name l = guests l.threads.items ≡ map (first_thread l.code) (map string_bytes (take l.name-index l.entries))
