use Rattle.bp_machine.proofs.SetupInRange.{few_globals}
use Rattle.bp_machine.proofs.starts.has_few_globals.Goals as goal

pub returns : goal.returns
returns c = few_globals c.args.code.now c.is_of_a_program.ensures
