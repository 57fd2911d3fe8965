use Rattle.bp_messages.proofs.step_objects.put_refuted.Goals as goal

pub returns : goal.returns
returns g c = rw c.verdict_pieces.ensures at c.put_pieces.ensures
