use Rattle.bp_flat.proofs.code.Code.is_of_a_program.Goals as goal

pub returns : goal.returns
returns c = rw (← c.self.view_is) c.self.invariant
