use Rattle.bp_confirm.proofs.Common.{rules, slice_get_within}
use Rattle.bp_confirm.proofs.Elements.{past_none, take_and}
use Rattle.bp_confirm.proofs.declarations.bits_of.Goals as goal

pub loop-bit-preserved : goal.loop-bit-preserved
loop-bit-preserved c = search (rules, slice_get_within, take_and)

pub returns : goal.returns
returns c = search (rules, past_none)
