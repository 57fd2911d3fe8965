use Rattle.bp_code.proofs.Common.{take, IsErrorOfProcedures, Finds}
use Rattle.bp_code.proofs.checks.error_of_procedures.Given as goal

abbrev pub invariant-loop-proc : goal.invariant-loop-proc
invariant-loop-proc l = Finds (IsErrorOfProcedures l.globals l.callees (take l.proc-index l.procs)) l.best
