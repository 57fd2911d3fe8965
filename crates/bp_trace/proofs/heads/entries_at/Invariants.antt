use Rattle.bp_trace.proofs.Common.{length, map, AreReadTo, entry}
use Rattle.bp_trace.proofs.heads.entries_at.Given as goal

abbrev pub invariant-loop-name : goal.invariant-loop-name
invariant-loop-name l = AreReadTo entry l.text (map (λ n. n.now) l.names.items) l.rest

abbrev pub decreases-loop-name : goal.decreases-loop-name
decreases-loop-name l = length l.rest
