use Rattle.bp_machine.proofs.Common.{◌≡◌, length, map, take, string_bytes, vec_len, first_thread, guests}
use Rattle.bp_machine.proofs.threads.restart_threads.Given as goal

abbrev pub invariant-loop-i : goal.invariant-loop-i
invariant-loop-i l = record {
  count : vec_len l.threads ≡ length l.entries;
  started : guests (take l.i l.threads.items) ≡ map (first_thread l.code) (map string_bytes (take l.i l.entries));
}
