use Rattle.bp_syntax.proofs.Common.{rules}
use Rattle.bp_syntax.proofs.ResultAfterToken.{passed_on, some_name}
use Rattle.bp_syntax.proofs.parser.Parser.any_names.Goals as goal

pub returns-then-at-clause-reads : goal.returns-then-at-clause-reads
returns-then-at-clause-reads c next = search (rules, passed_on, some_name)
