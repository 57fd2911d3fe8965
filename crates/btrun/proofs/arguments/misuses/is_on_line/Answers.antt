use Rattle.btrun.proofs.Common.{rules}
use Rattle.btrun.proofs.GivenArguments.{given_is}
use Rattle.btrun.proofs.arguments.misuses.is_on_line.Goals as goal

pub returns : goal.returns
returns c = search (rules, given_is)
