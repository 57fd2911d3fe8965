use Rattle.std.proofs.lemmas.Grind.{common_steps}
use Rattle.bp_confirm.proofs.Common.{arith, bytes_eq-Decides}
use Rattle.bp_confirm.proofs.ValuesSeen.{known_there, got_item}
use Rattle.bp_confirm.proofs.declarations.is_declared.Goals as goal

pub returns-in-Some-clause-is : goal.returns-in-Some-clause-is
returns-in-Some-clause-is c = grind (arith, common_steps, got_item, bytes_eq-Decides, known_there)
