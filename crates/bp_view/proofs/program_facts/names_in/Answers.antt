use Rattle.bp_view.proofs.Common.{common_steps, arith, rules, map-append, both_added}
use Rattle.bp_view.proofs.program_facts.names_in.Goals as goal
use Rattle.bp_source.proofs.DecidersOfPlaces.{first_piece, one_piece}

pub loop-size-preserved : goal.loop-size-preserved
loop-size-preserved c = grind (arith, common_steps, map-append, first_piece, both_added)

pub returns : goal.returns
returns c = search (rules, map-append, one_piece)
