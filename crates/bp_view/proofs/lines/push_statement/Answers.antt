use Rattle.bp_view.proofs.Common.{min, rules, nil_from_length, nat_tests}
use Rattle.bp_view.proofs.Growth.{nothing}
use Rattle.bp_view.proofs.ShownLines.{statement_is}
use Rattle.bp_view.proofs.lines.push_statement.Goals as goal

pub returns-then-is_empty : goal.returns-then-is_empty
returns-then-is_empty c = search (rules, min, nil_from_length, nat_tests, statement_is, nothing)

pub returns : goal.returns
returns c = search (rules, min, statement_is)
