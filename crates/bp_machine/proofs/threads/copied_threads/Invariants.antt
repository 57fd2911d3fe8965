use Rattle.bp_machine.proofs.Common.{◌≡◌, take, guests}
use Rattle.bp_machine.proofs.threads.copied_threads.Given as goal

abbrev pub invariant-loop-thread : goal.invariant-loop-thread
invariant-loop-thread l = guests l.copies.items ≡ guests (take l.thread-index l.threads)
