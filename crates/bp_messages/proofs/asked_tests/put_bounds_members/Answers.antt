use Rattle.bp_messages.proofs.asked_tests.put_bounds_members.Goals as goal

pub returns : goal.returns
returns g c = rw (c.from.ensures, c.from-2.ensures, c.contexts.ensures, c.calls.ensures, c.limit_of.ensures) at c.put_pieces.ensures
