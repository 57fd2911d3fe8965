use Rattle.bp_confirm.proofs.Common.{rules, map_push, slice_get_within}
use Rattle.bp_confirm.proofs.Elements.{past_none, take_and}
use Rattle.bp_confirm.proofs.declarations.entries_of.Goals as goal

pub loop-name-preserved : goal.loop-name-preserved
loop-name-preserved c = search (rules, slice_get_within, take_and, map_push)

pub returns : goal.returns
returns c = search (rules, past_none)
