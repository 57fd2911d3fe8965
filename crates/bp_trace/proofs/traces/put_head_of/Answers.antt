use Rattle.bp_trace.proofs.Common.{common_steps, arith, and_then}
use Rattle.bp_trace.proofs.HeadsRead.{head_parts}
use Rattle.bp_trace.proofs.traces.put_head_of.Goals as goal

pub returns : goal.returns
returns g c = grind (arith, common_steps, head_parts, and_then)
