use Rattle.bp_messages.proofs.notes.put_notes_members.Goals as goal

pub returns : goal.returns
returns g c = rw c.notes_of-notes.ensures at c.put_pieces.ensures
