use Rattle.bp_syntax.proofs.Common.{◌≡◌, [], length, List, Procedure, Wanted, MoreProcs, parse_result}
use Rattle.bp_syntax.proofs.parser.Parser.procs.Given as goal

abbrev pub invariant-loop-alloc : goal.invariant-loop-alloc
invariant-loop-alloc l = (next : List Procedure → Wanted) → parse_result (MoreProcs [] next) l.fn.self ≡ parse_result (MoreProcs l.procs.items next) l.self

abbrev pub decreases-loop-alloc : goal.decreases-loop-alloc
decreases-loop-alloc l = length l.self
