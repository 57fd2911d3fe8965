use Rattle.bp_syntax.proofs.Common.{◌≡◌, ◌<◌, List, length, map, Expression, expression_of, Wanted, ExprsThen, MoreExprs, parse_result}
use Rattle.bp_syntax.proofs.parser.Parser.exprs.Given as goal

abbrev pub invariant-loop-alloc : goal.invariant-loop-alloc
invariant-loop-alloc l = record {
  reads : (next : List Expression → Wanted)
      → parse_result (ExprsThen (map expression_of l.fn.exprs.items) next) l.fn.self
      ≡ parse_result (MoreExprs (map expression_of l.exprs.items) next) l.self;
  shorter : length l.self < length l.fn.self;
}

abbrev pub decreases-loop-alloc : goal.decreases-loop-alloc
decreases-loop-alloc l = length l.self
