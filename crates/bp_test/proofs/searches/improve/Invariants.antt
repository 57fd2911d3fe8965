use Rattle.bp_test.proofs.Common.{GoesOn}
use Rattle.bp_test.proofs.searches.improve.Given as goal

abbrev pub invariant-loop : goal.invariant-loop
invariant-loop l = GoesOn l.initial.search l.search
