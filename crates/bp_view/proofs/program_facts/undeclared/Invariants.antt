use Rattle.bp_view.proofs.Common.{take, map, AreDeclared}
use Rattle.bp_view.proofs.program_facts.undeclared.Given as goal

abbrev pub invariant-loop-n : goal.invariant-loop-n
invariant-loop-n l = AreDeclared l.checked (take l.n (map (λ n. n.now) l.names))
