-- Well-formed trees may be sent to other threads and shared among them.
use denote.Param.Send.{IsSend, IsSync, sendable}
use Rattle.std.proofs.Crossing.{crosses}
use Rattle.bp_syntax.proofs.exprs.Sub.TheLaws.TheKnot.{send-Sub, send-Expr, sync-Sub, sync-Expr}
use Rattle.bp_syntax.proofs.stmts.Block.TheLaws.TheKnot.{send-Block, sync-Block}
use Rattle.bp_syntax.specs.contracts.names.Names as Names
use Rattle.bp_syntax.specs.contracts.stmts.Block as Block
use Rattle.bp_syntax.specs.contracts.procs.Proc as Proc
use Rattle.bp_syntax.specs.contracts.trees.Parts as Parts
use Rattle.bp_syntax.specs.contracts.checked_trees.Checked as Checked

names_send : IsSend Names.the_row
names_send = search (sendable, crosses) depth 40

names_sync : IsSync Names.the_row
names_sync = search (sendable, crosses) depth 40

block_send : IsSend Block.the_row
block_send = search (sendable, crosses, send-Block, send-Sub, send-Expr, names_send) depth 40 fits 20000

block_sync : IsSync Block.the_row
block_sync = search (sendable, crosses, sync-Block, sync-Sub, sync-Expr, names_sync) depth 40 fits 20000

proc_send : IsSend Proc.the_row
proc_send = search (sendable, crosses, names_send, block_send) depth 40

proc_sync : IsSync Proc.the_row
proc_sync = search (sendable, crosses, names_sync, block_sync) depth 40

parts_send : IsSend Parts.the_row
parts_send = search (sendable, crosses, names_send, proc_send) depth 40

parts_sync : IsSync Parts.the_row
parts_sync = search (sendable, crosses, names_sync, proc_sync) depth 40

pub checked_send : IsSend Checked.the_row
checked_send = search (sendable, crosses, parts_send, parts_sync) depth 40

pub checked_sync : IsSync Checked.the_row
checked_sync = search (sendable, crosses, parts_send, parts_sync) depth 40
