use Rattle.bp_text.proofs.Common.{flat_map, take, piece_text, Given}
use Rattle.bp_text.proofs.sinks.Sink.put_pieces.Given as goal

abbrev pub invariant-loop-piece : goal.invariant-loop-piece
invariant-loop-piece g l =
    Given g.W.Write.contents l.fn.self l.self (flat_map piece_text (take l.piece-index l.pieces))
