use Rattle.bp_trace.proofs.Common.{common_steps, arith, nat_tests, and_then}
use Rattle.bp_trace.proofs.PiecesAreFewest.{some_pieces}
use Rattle.bp_trace.proofs.traces.put_pieces.Goals as goal

pub returns : goal.returns
returns g c = grind (arith, common_steps, nat_tests, some_pieces, and_then)
