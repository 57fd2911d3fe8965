use Rattle.bp_code.proofs.Common.{rules}
use Rattle.bp_code.proofs.RepeatedNames.{none_here, one_here, all_here}
use Rattle.bp_code.proofs.tables.least_repeat.Goals as goal
use Rattle.bp_code.proofs.tables.least_repeat.Goals.{then-has_before, else-has_before}

pub loop-i-preserved : goal.loop-i-preserved
loop-i-preserved c = search (rules, none_here, one_here, then-has_before, else-has_before)

pub returns : goal.returns
returns c = search (rules, all_here)
