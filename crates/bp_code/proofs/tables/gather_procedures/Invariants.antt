use Rattle.bp_code.proofs.Common.{◌≡◌, ◌++◌, map, take, names_of}
use Rattle.bp_code.proofs.tables.gather_procedures.Given as goal

abbrev pub invariant-loop-proc : goal.invariant-loop-proc
invariant-loop-proc l = names_of l.out.items ≡ names_of l.initial.out.items ++ map (λ q. q.name) (take l.proc-index l.procs)
