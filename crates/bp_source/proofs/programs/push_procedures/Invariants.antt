use Rattle.bp_source.proofs.Common.{◌≡◌, ◌++◌, flat_map, take, procedure_item}
use Rattle.bp_source.proofs.programs.push_procedures.Given as goal

abbrev pub invariant-loop-proc : goal.invariant-loop-proc
invariant-loop-proc l = l.items.items ≡ l.initial.items.items ++ flat_map procedure_item (take l.proc-index l.procs)
