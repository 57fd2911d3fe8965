use Rattle.bp_source.proofs.Common.{rules}
use Rattle.bp_source.proofs.DecidersOfPlaces.{first_piece, one_piece}
use Rattle.bp_source.proofs.names.first_piece.Goals as goal

pub returns-then-size-text-clause-pieces : goal.returns-then-size-text-clause-pieces
returns-then-size-text-clause-pieces c = search (rules, first_piece)

pub returns-clause-pieces : goal.returns-clause-pieces
returns-clause-pieces c = search (rules, one_piece)
