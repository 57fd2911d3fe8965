use Rattle.bp_advice.proofs.Common.{rules}
use Rattle.bp_advice.proofs.AllKinds.{no_program}
use Rattle.bp_advice.proofs.offers.may_end.Goals as goal

pub returns : goal.returns
returns c = search (rules, no_program)
