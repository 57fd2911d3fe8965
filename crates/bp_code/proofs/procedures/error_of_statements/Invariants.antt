use Rattle.bp_code.proofs.Common.{take, all_labelled, IsErrorOfStatements, Finds}
use Rattle.bp_code.proofs.procedures.error_of_statements.Given as goal

abbrev pub invariant-loop-stmt : goal.invariant-loop-stmt
invariant-loop-stmt l =
    Finds (IsErrorOfStatements l.declared l.callees l.labels (all_labelled (take l.stmt-index l.stmts))) l.best
