use Rattle.bp_syntax.proofs.Common.{◌≡◌, ◌<◌, length, ◌+◌, ◌*◌, Block, Wanted, StmtsThen, MoreStmts, parse_result}
use Rattle.bp_syntax.proofs.ResultAfterToken.{before_block}
use Rattle.bp_syntax.proofs.parser.Parser.+stmt.Given as goal

abbrev pub decreases-branch : goal.decreases-branch
decreases-branch l = 5 * length l.self.now

abbrev pub decreases-repetition : goal.decreases-repetition
decreases-repetition l = 5 * length l.self.now

abbrev pub decreases-form : goal.decreases-form
decreases-form l = 5 * length l.self.now + 1

abbrev pub decreases-stmt : goal.decreases-stmt
decreases-stmt l = 5 * length l.self.now + 2

abbrev pub decreases-stmts_to : goal.decreases-stmts_to
decreases-stmts_to l = 5 * length l.self.now + 4

abbrev pub decreases-stmts : goal.decreases-stmts
decreases-stmts l = 5 * length l.self.now + 3

abbrev pub invariant-stmts-loop-alloc : goal.invariant-stmts-loop-alloc
invariant-stmts-loop-alloc l = record {
  reads : (next : Block → Wanted) → parse_result (StmtsThen next) l.fn.self ≡ parse_result (MoreStmts (λ b. next (before_block l.stmts.items b))) l.self;
  shorter : length l.self < length l.fn.self;
}

abbrev pub decreases-stmts-loop-alloc : goal.decreases-stmts-loop-alloc
decreases-stmts-loop-alloc l = length l.self
