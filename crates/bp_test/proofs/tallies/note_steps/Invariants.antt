use Rattle.bp_test.proofs.Common.{take, Some, HasStep, MarksGrow}
use Rattle.bp_test.proofs.tallies.note_steps.Given as goal

abbrev pub invariant-loop-call : goal.invariant-loop-call
invariant-loop-call l = MarksGrow (λ i. Some i) (HasStep (take l.call-index l.history)) l.fn.stepped.items l.stepped.items
