use Rattle.bp_trace.proofs.Common.{rules, nat_tests}
use Rattle.bp_trace.proofs.HeadsRead.{some_digits}
use Rattle.bp_trace.proofs.traces.put_digits.Goals as goal

pub returns : goal.returns
returns g c = search (rules, nat_tests, some_digits)
