use Rattle.bp_trace.proofs.Common.{◌-◌, length}
use Rattle.bp_trace.proofs.EndLineAt.{HasRead}
use Rattle.bp_trace.proofs.trace_lines.read_symbols.Given as goal

abbrev pub invariant-loop-bit : goal.invariant-loop-bit
invariant-loop-bit l = HasRead l.thread l.text l.fn.calls.items l.calls.items l.size

abbrev pub decreases-loop-bit : goal.decreases-loop-bit
decreases-loop-bit l = length l.text - l.size
