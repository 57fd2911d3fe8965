use Rattle.bp_view.proofs.Common.{arith, unwrap_or-slice_get, take_more, flat_map-append, common_steps}
use Rattle.bp_view.proofs.Growth.{and_then, ends, nothing}
use Rattle.bp_view.proofs.setup_lines.push_entries.Goals as goal

pub loop-thread-preserved : goal.loop-thread-preserved
loop-thread-preserved c = grind (arith, common_steps, unwrap_or-slice_get, nothing, take_more, flat_map-append, and_then, ends)
