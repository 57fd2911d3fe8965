use Rattle.bp_source.proofs.Common.{◌≡◌, ◌++◌, drop, map, places_of, reading_of}
use Rattle.bp_source.proofs.DecidersOfPlaces.{asserted}
use Rattle.bp_source.proofs.assertions.deciders_in.Given as goal

abbrev pub invariant-loop-proc : goal.invariant-loop-proc
invariant-loop-proc l =
    map reading_of l.deciders.items ++ asserted (places_of (drop l.proc-index l.procs)) ≡ asserted (places_of l.procs)
