use Rattle.bp_explore.proofs.SearchedLayers.{IsSearched}
use Rattle.bp_explore.proofs.searches.search.Given as goal

abbrev pub invariant-loop-last : goal.invariant-loop-last
invariant-loop-last g l = IsSearched l.code l.setup (g.O.Observer.listed l.observer) l.with_deadlock l.space.nodes.items l.from l.last
