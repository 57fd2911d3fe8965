use Rattle.bp_explore.proofs.Common.{rules, map-set, slice_get_read, slice_get-map}
use Rattle.bp_explore.proofs.states.State.take_step.Goals as goal

pub returns-in_ok-take_step-clause-state : goal.returns-in_ok-take_step-clause-state
returns-in_ok-take_step-clause-state c = search (rules, slice_get-map, slice_get_read, map-set)
