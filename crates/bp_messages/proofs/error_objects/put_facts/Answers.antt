use Rattle.bp_messages.proofs.error_objects.put_facts.Goals as goal

pub returns : goal.returns
returns g c =
    rw (
      c.from.ensures,
      c.bytes_of.ensures,
      c.byte_of.ensures,
      c.place_in-line.ensures,
      c.thread_of.ensures,
      c.wanted_letter.ensures,
    ) at c.put_pieces.ensures
