use Rattle.bp_code.proofs.Common.{◌≡◌, ◌++◌, drop, places_of}
use Rattle.bp_code.proofs.BlockItems.{starts}
use Rattle.bp_code.proofs.starts.statement_starts.Given as goal

abbrev pub invariant-loop-proc : goal.invariant-loop-proc
invariant-loop-proc l =
    l.starts.items ++ starts (places_of (drop l.proc-index l.procs)) ≡ starts (places_of l.procs)
