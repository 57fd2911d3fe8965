use Rattle.bp_explore.proofs.explorations.explore_through.Goals as goal

pub returns : goal.returns
returns g c = λ own. c.in_ok-ending.ensures c.args.contexts own (c.search-end.ensures own)
