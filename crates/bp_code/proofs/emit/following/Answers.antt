use Rattle.bp_code.proofs.Common.{◌+◌}
use Rattle.bp_code.proofs.BlockItems.{first_within}
use Rattle.bp_code.proofs.emit.following.Goals as goal

pub returns-then-i-stmts : goal.returns-then-i-stmts
returns-then-i-stmts c = first_within c.args.stmts.now (c.args.i + 1) c.args.after c.args.next c.if-i-stmts.true
