use Rattle.bp_commands.proofs.confirmations.put_line.Goals as goal

pub returns-in-Failure : goal.returns-in-Failure
returns-in-Failure g c = rw c.in-Failure.is c.put.ensures

pub returns-in-Run : goal.returns-in-Run
returns-in-Run g c = rw c.in-Run.is c.put-in-Run.ensures
