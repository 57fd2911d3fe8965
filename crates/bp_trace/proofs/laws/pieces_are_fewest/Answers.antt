use Rattle.bp_trace.proofs.PiecesAreFewest.{pieces_whole, pieces_fewest}
use Rattle.bp_trace.proofs.laws.pieces_are_fewest.Goals as goal

pub returns : goal.returns
returns c = λ h. record { whole = pieces_whole h; fewest = pieces_fewest h }
