use Rattle.bp_view.proofs.Common.{reverse, rules, nat_tests, length-reverse}
use Rattle.bp_view.proofs.CallsOfLines.{at_most}
use Rattle.bp_view.proofs.filters.calls_in_line.Goals as goal

pub returns : goal.returns
returns c = search (rules, reverse, length-reverse, at_most, nat_tests)
