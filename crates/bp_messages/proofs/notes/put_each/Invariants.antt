use Rattle.bp_messages.proofs.Common.{flat_map, take, Given}
use Rattle.bp_text.specs.Pieces.{piece_text}
use Rattle.bp_messages.proofs.notes.put_each.Given as goal

abbrev pub invariant-loop-note : goal.invariant-loop-note
invariant-loop-note g l =
    Given g.W.Write.contents l.fn.sink l.sink (flat_map (λ note. flat_map piece_text note.now) (take l.note-index l.notes))
