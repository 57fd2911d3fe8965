use Rattle.bp_test.proofs.Common.{◌≡◌, take, granted_calls}
use Rattle.bp_test.proofs.shrinks.granted.Given as goal

abbrev pub invariant-loop-call : goal.invariant-loop-call
invariant-loop-call l = l.calls.items ≡ granted_calls (take l.call-index l.history)
