use Rattle.bp_explore.proofs.explorations.explore.Goals as goal

pub returns : goal.returns
returns g c = c.in_ok-ending.ensures c.args.contexts c.args.with_deadlock (c.search-end.ensures tt)
