use Rattle.bp_messages.proofs.progress.put_exploration_progress.Goals as goal

pub returns : goal.returns
returns g c = rw (c.cleared.ensures, c.rate_of-rate.ensures) at c.put_pieces.ensures
