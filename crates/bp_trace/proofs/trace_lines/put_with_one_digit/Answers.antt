use Rattle.bp_trace.proofs.Common.{rules, decimal_digit}
use Rattle.bp_trace.proofs.trace_lines.put_with_one_digit.Goals as goal

pub returns : goal.returns
returns g c = search (rules, decimal_digit)
