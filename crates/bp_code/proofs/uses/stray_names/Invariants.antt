use Rattle.bp_code.proofs.Common.{take, Among, Finds, IsStray}
use Rattle.bp_code.proofs.uses.stray_names.Given as goal

abbrev pub invariant-loop-name : goal.invariant-loop-name
invariant-loop-name l = Finds (IsStray l.declared (Among (take l.name-index l.names))) l.best
