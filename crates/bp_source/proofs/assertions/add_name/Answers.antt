use Rattle.bp_source.proofs.Common.{rules, map-append}
use Rattle.bp_source.proofs.DecidersOfPlaces.{among_named}
use Rattle.bp_source.proofs.assertions.add_name.Goals as goal

pub returns-in_ok-push : goal.returns-in_ok-push
returns-in_ok-push c = search (rules, among_named, map-append)

pub returns-else-not-is_named : goal.returns-else-not-is_named
returns-else-not-is_named c = search (rules, among_named)
