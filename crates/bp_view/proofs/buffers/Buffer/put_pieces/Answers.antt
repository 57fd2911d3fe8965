use Rattle.bp_view.proofs.Growth.{pieces_then}
use Rattle.bp_view.proofs.buffers.Buffer.put_pieces.Goals as goal

pub returns-clause-followed : goal.returns-clause-followed
returns-clause-followed c = λ later rest more. pieces_then c.args.pieces.now (record { grown = λ fine. (fine, c.in-Ok.ensures) }) more
