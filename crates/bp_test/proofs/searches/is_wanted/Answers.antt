use Rattle.bp_test.proofs.searches.is_wanted.Goals as goal

pub returns-clause-end : goal.returns-clause-end
returns-clause-end c = λ same h stands. c.is_same.ensures same c.args.session.now.code.tree c.args.session.now.setup h (c.in_ok-own.ensures.end h stands)
