use Rattle.bp_messages.proofs.replay_lines.put_outcome.Goals as goal

pub returns-in-Failed : goal.returns-in-Failed
returns-in-Failed g c =
    rw c.in-Failed.is (rw c.from.ensures at c.put_pieces.ensures)
