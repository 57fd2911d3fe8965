use Rattle.bp_source.proofs.Common.{take, values_of, AreGlobals}
use Rattle.bp_source.proofs.initial_bits.first_unknown.Given as goal

abbrev pub invariant-loop-n : goal.invariant-loop-n
invariant-loop-n l = AreGlobals l.checked (take l.n (values_of l.named))
