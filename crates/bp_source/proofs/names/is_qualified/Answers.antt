use Rattle.bp_source.proofs.Common.{bytes_eq, rules}
use Rattle.bp_source.proofs.DecidersOfPlaces.{same_qualified}
use Rattle.bp_source.proofs.names.is_qualified.Goals as goal

pub returns-in-Some : goal.returns-in-Some
returns-in-Some c = search (rules, same_qualified, bytes_eq)
