-- Codes may be sent to other threads and shared among them, in steps that `search` can take.
use denote.Param.Send.{IsSend, IsSync, sendable}
use Rattle.std.proofs.Crossing.{crosses}
use Rattle.bp_syntax.proofs.TreesCross.{checked_send, checked_sync}
use Rattle.bp_flat.proofs.exprs.SlotSub.TheLaws.TheKnot.{send-SlotSub, send-SlotExpr, sync-SlotSub, sync-SlotExpr}
use Rattle.bp_flat.specs.contracts.expr_lists.SlotExprs as SlotExprs
use Rattle.bp_flat.specs.contracts.expr_lists.Arguments as Arguments
use Rattle.bp_flat.specs.contracts.slots.Slots as Slots
use Rattle.bp_flat.specs.contracts.instrs.Instr as Instr
use Rattle.bp_flat.specs.contracts.headings.Heading as Heading
use Rattle.bp_flat.specs.contracts.code.Code as Code
use Rattle.bp_flat.specs.contracts.code.Parts as Parts

exprs_send : IsSend SlotExprs.the_row
exprs_send = search (sendable, crosses, send-SlotSub, send-SlotExpr) depth 40

exprs_sync : IsSync SlotExprs.the_row
exprs_sync = search (sendable, crosses, sync-SlotSub, sync-SlotExpr) depth 40

arguments_send : IsSend Arguments.the_row
arguments_send = search (sendable, crosses, send-SlotSub, send-SlotExpr) depth 40

arguments_sync : IsSync Arguments.the_row
arguments_sync = search (sendable, crosses, sync-SlotSub, sync-SlotExpr) depth 40

slots_send : IsSend Slots.the_row
slots_send = search (sendable, crosses) depth 40

slots_sync : IsSync Slots.the_row
slots_sync = search (sendable, crosses) depth 40

instr_send : IsSend Instr.the_row
instr_send = search (sendable, crosses, send-SlotSub, send-SlotExpr, exprs_send, arguments_send, slots_send) depth 40 fits 20000

instr_sync : IsSync Instr.the_row
instr_sync = search (sendable, crosses, sync-SlotSub, sync-SlotExpr, exprs_sync, arguments_sync, slots_sync) depth 40 fits 20000

heading_send : IsSend Heading.the_row
heading_send = search (sendable, crosses) depth 40

heading_sync : IsSync Heading.the_row
heading_sync = search (sendable, crosses) depth 40

parts_send : IsSend Parts.the_row
parts_send = search (sendable, crosses, instr_send, heading_send, checked_send) depth 40

parts_sync : IsSync Parts.the_row
parts_sync = search (sendable, crosses, instr_sync, heading_sync, checked_sync) depth 40

pub code_send : IsSend Code.the_row
code_send = search (sendable, crosses, parts_send, parts_sync) depth 40

pub code_sync : IsSync Code.the_row
code_sync = search (sendable, crosses, parts_send, parts_sync) depth 40
