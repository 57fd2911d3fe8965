use Rattle.btrun.proofs.Common.{rules, one_text-rows}
use Rattle.btrun.proofs.arguments.values.is_given.Goals as goal

pub returns : goal.returns
returns c = search (rules, one_text-rows)
