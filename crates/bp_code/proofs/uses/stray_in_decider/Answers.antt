use Rattle.bp_code.proofs.uses.stray_in_decider.Goals as goal

pub returns-in-Value : goal.returns-in-Value
returns-in-Value c = rw c.in-Value.is c.stray_in.ensures
