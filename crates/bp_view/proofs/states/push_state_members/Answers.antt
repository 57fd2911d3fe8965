use Rattle.bp_view.proofs.states.push_state_members.Goals as goal

pub returns : goal.returns
returns c = rw c.failed_thread.ensures at c.put_pieces.ensures.given
