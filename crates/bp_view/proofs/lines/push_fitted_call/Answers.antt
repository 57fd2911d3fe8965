use Rattle.bp_view.proofs.Common.{length-append, rules, nat_tests}
use Rattle.bp_view.proofs.ShownLines.{taken}
use Rattle.bp_view.proofs.lines.push_fitted_call.Goals as goal

pub returns : goal.returns
returns c = search (rules, length-append, nat_tests, taken)
