use Rattle.bp_test.proofs.Common.{Some, MarksGrow}
use Rattle.bp_test.proofs.MarkLemmas.{IsMarkedBelow}
use Rattle.bp_test.proofs.tallies.mark_all.Given as goal

abbrev pub invariant-loop-place : goal.invariant-loop-place
invariant-loop-place l = MarksGrow (λ i. Some i) (IsMarkedBelow l.others l.place) l.fn.marks.items l.marks.items
