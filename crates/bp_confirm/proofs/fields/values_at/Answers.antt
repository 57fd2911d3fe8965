use Rattle.bp_confirm.proofs.Common.{arith, all_read, one_more_read}
use Rattle.bp_confirm.proofs.ReadLines.{says, value_shorter, values_at}
use Rattle.bp_confirm.proofs.fields.values_at.Goals as goal

pub loop-more-preserved : goal.loop-more-preserved
loop-more-preserved c =
    let less = value_shorter c.in-Some.ensures in
    record { few = omega arith; read = (_, one_more_read c.loop-more.invariant.read.1 c.in-Some.ensures) }

pub returns-clause-says : goal.returns-clause-says
returns-clause-says c = says (all_read c.loop-more.invariant.read.1 c.in_default.ensures) c.part_before.ensures

pub returns-clause-at : goal.returns-clause-at
returns-clause-at c = values_at (all_read c.loop-more.invariant.read.1 c.in_default.ensures) c.part_before.ensures
