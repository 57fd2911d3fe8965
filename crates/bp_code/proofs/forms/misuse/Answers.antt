use Rattle.bp_code.proofs.ErrorsOfParts.{jump_anywhere, sides_anywhere, call_anywhere, ok_then}
use Rattle.bp_code.proofs.forms.misuse.Goals as goal

pub returns-in-Assign : goal.returns-in-Assign
returns-in-Assign c =
    rw c.in-Assign.is (ok_then _
    (sides_anywhere c.args.callees.now c.args.labels.now c.in-Assign.targets c.in-Assign.values)
    (rw (c.as_slice.ensures, c.as_slice-in-Assign.ensures) at c.wrong_sides.ensures))

pub returns-in-Call : goal.returns-in-Call
returns-in-Call c =
    rw c.in-Call.is (call_anywhere c.args.callees.now c.args.labels.now c.in-Call.callee c.in-Call.arguments _
    (rw c.as_slice-in-Call.ensures at c.wrong_call.ensures))

pub returns-in-Goto : goal.returns-in-Goto
returns-in-Goto c = rw c.in-Goto.is (jump_anywhere c.args.callees.now c.args.labels.now c.in-Goto.to _ c.lost_jump.ensures)
