use Rattle.bp_view.proofs.OneView.{one_list, one_state, one_view}
use Rattle.bp_view.proofs.laws.views_are_single.Goals as goal

pub returns-clause-view : goal.returns-clause-view
returns-clause-view c = one_view

pub returns-clause-state : goal.returns-clause-state
returns-clause-state c = one_state

pub returns-clause-contexts : goal.returns-clause-contexts
returns-clause-contexts c = one_list
