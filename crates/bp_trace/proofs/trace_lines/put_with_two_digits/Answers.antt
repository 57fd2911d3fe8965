use Rattle.bp_trace.proofs.Common.{rules}
use Rattle.bp_trace.proofs.ScheduleLines.{two_text}
use Rattle.bp_trace.proofs.trace_lines.put_with_two_digits.Goals as goal

pub returns : goal.returns
returns g c = search (rules, two_text)
