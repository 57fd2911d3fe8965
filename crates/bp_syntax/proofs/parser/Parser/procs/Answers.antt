use Rattle.bp_syntax.proofs.Common.{rules}
use Rattle.bp_syntax.proofs.ResultAfterToken.{at_exit, more_procs_ahead}
use Rattle.bp_syntax.proofs.parser.Parser.procs.Goals as goal

pub returns-in_err-procedure : goal.returns-in_err-procedure
returns-in_err-procedure c next = search (rules, at_exit, more_procs_ahead)

pub loop-alloc-preserved : goal.loop-alloc-preserved
loop-alloc-preserved c next = search (rules, more_procs_ahead)
