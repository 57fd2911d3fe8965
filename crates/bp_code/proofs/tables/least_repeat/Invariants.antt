use Rattle.bp_code.proofs.Common.{Only, Finds}
use Rattle.bp_code.proofs.RepeatedNames.{Below}
use Rattle.bp_code.proofs.tables.least_repeat.Given as goal

abbrev pub invariant-loop-i : goal.invariant-loop-i
invariant-loop-i l = Finds (Only l.error (Below l.names l.error l.i)) l.best
