use Rattle.bp_syntax.proofs.Common.{rules}
use Rattle.bp_syntax.proofs.ResultAfterToken.{at_exit, label_ahead}
use Rattle.bp_syntax.proofs.parser.Parser.label.Goals as goal

pub returns-in_err-name-clause-reads : goal.returns-in_err-name-clause-reads
returns-in_err-name-clause-reads c next = search (rules, at_exit, label_ahead)

pub returns-in_err-expect-clause-reads : goal.returns-in_err-expect-clause-reads
returns-in_err-expect-clause-reads c next = search (rules, at_exit, label_ahead)

pub returns-then-at_second-clause-reads : goal.returns-then-at_second-clause-reads
returns-then-at_second-clause-reads c next = search (rules, label_ahead)
