use Rattle.bp_text.proofs.NumbersInTurn.{not_below}
use Rattle.bp_text.proofs.formats.number_at.Goals as goal

pub returns-then-bound-number-clause-found : goal.returns-then-bound-number-clause-found
returns-then-bound-number-clause-found c = not_below c.args.bound c.in-Some.ensures c.if-bound-number.true
