use Rattle.bp_view.proofs.Common.{flat_map, take, Grown, condition_in, wait_text}
use Rattle.bp_view.proofs.outcomes.push_waits.Given as goal

abbrev pub invariant-loop-wait : goal.invariant-loop-wait
invariant-loop-wait l = Grown l.fn.view l.view (flat_map (λ x. wait_text l.format l.file (condition_in x)) (take l.wait-index l.waits))
