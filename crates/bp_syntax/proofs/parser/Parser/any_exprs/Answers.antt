use Rattle.bp_syntax.proofs.Common.{rules}
use Rattle.bp_syntax.proofs.ResultAfterToken.{passed_on, some_expr}
use Rattle.bp_syntax.proofs.parser.Parser.any_exprs.Goals as goal

pub returns-then-at_expr-clause-reads : goal.returns-then-at_expr-clause-reads
returns-then-at_expr-clause-reads c next = search (rules, passed_on, some_expr)
