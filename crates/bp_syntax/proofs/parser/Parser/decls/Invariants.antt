use Rattle.bp_syntax.proofs.Common.{◌≡◌, ◌≤◌, [], length, List, Name, Wanted, MoreDecls, parse_result}
use Rattle.bp_syntax.proofs.parser.Parser.decls.Given as goal

abbrev pub invariant-loop-alloc : goal.invariant-loop-alloc
invariant-loop-alloc l = record {
  reads : (next : List Name → Wanted) → parse_result (MoreDecls [] next) l.fn.self ≡ parse_result (MoreDecls l.names.items next) l.self;
  no_longer : length l.self ≤ length l.fn.self;
}

abbrev pub decreases-loop-alloc : goal.decreases-loop-alloc
decreases-loop-alloc l = length l.self
