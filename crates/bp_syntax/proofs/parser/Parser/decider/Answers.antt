use Rattle.bp_syntax.proofs.Common.{rules}
use Rattle.bp_syntax.proofs.ResultAfterToken.{at_exit, no_question}
use Rattle.bp_syntax.proofs.parser.Parser.decider.Goals as goal

pub returns-in_err-expr-clause-reads : goal.returns-in_err-expr-clause-reads
returns-in_err-expr-clause-reads c next = search (rules, at_exit, no_question)

pub returns-clause-reads : goal.returns-clause-reads
returns-clause-reads c next = search (rules, no_question)
