use Rattle.bp_syntax.proofs.Common.{◌≡◌, ◌≤◌, length, ◌+◌, ◌*◌, expression_of, Wanted, MoreOperands, parse_result}
use Rattle.bp_syntax.specs.Ast as tree
use Rattle.bp_syntax.proofs.parser.Parser.+expr.Given as goal

abbrev pub decreases-unary : goal.decreases-unary
decreases-unary l = 10 * length l.self.now

abbrev pub decreases-operand : goal.decreases-operand
decreases-operand l = 10 * length l.self.now + 1

abbrev pub decreases-operators : goal.decreases-operators
decreases-operators l = 10 * length l.self.now + 2

abbrev pub decreases-tighter : goal.decreases-tighter
decreases-tighter l = 10 * length l.self.now + 3

abbrev pub decreases-expr : goal.decreases-expr
decreases-expr l = 10 * length l.self.now + 9

abbrev pub invariant-operators-loop-op : goal.invariant-operators-loop-op
invariant-operators-loop-op l = record {
  reads : (next : tree.Expression → Wanted)
      → parse_result (MoreOperands l.precedence (expression_of l.fn.first) next) l.fn.self
      ≡ parse_result (MoreOperands l.precedence (expression_of l.left) next) l.self;
  shorter : length l.self ≤ length l.fn.self;
}

abbrev pub decreases-operators-loop-op : goal.decreases-operators-loop-op
decreases-operators-loop-op l = length l.self
