use Rattle.bp_code.proofs.Common.{◌≡◌, ◌++◌, take, names_of}
use Rattle.bp_code.proofs.tables.gather.Given as goal

abbrev pub invariant-loop-name : goal.invariant-loop-name
invariant-loop-name l = names_of l.out.items ≡ names_of l.initial.out.items ++ take l.name-index l.names
