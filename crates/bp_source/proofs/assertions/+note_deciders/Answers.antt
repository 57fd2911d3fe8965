use Rattle.bp_source.proofs.Common.{common_steps, arith, rules}
use Rattle.bp_source.proofs.DecidersOfPlaces.{depth_inside, noted_one, statement_more}
use Rattle.bp_source.proofs.assertions.+note_deciders.Goals as goal

pub record_block-record_inside-requires : goal.record_block-record_inside-requires
record_block-record_inside-requires t c = search (rules, depth_inside)

pub record_block-loop-stmt-preserved : goal.record_block-loop-stmt-preserved
record_block-loop-stmt-preserved t c = grind (arith, common_steps, noted_one, statement_more)
