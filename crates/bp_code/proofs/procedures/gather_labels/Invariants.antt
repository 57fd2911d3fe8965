use Rattle.bp_code.proofs.Common.{◌≡◌, ◌++◌, take, labels_of, names_of, all_labelled}
use Rattle.bp_code.proofs.procedures.gather_labels.Given as goal

abbrev pub invariant-loop-stmt : goal.invariant-loop-stmt
invariant-loop-stmt l = names_of l.out.items ≡ names_of l.initial.out.items ++ labels_of (all_labelled (take l.stmt-index l.stmts))
