use Rattle.bp_trace.proofs.Common.{rules}
use Rattle.bp_trace.proofs.EndLineAt.{symbol_read}
use Rattle.bp_trace.proofs.trace_lines.read_symbols.Goals as goal

pub loop-bit-preserved : goal.loop-bit-preserved
loop-bit-preserved c = search (rules, symbol_read)
