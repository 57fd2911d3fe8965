-- The instruction for an action of src/.
use Rattle.bp_flat.specs.declared.actions.Assignment.{Assignment}
use Rattle.bp_flat.specs.declared.actions.Branch.{Branch}
use Rattle.bp_flat.specs.declared.actions.Call as call
use Rattle.bp_flat.specs.declared.actions.Action.{Action}
use Rattle.bp_flat.specs.declared.actions.Action.TheVariants as has
use Rattle.bp_flat.specs.Flat.{Instruction, Skip, Goto, Return, Assign, If, While, Assert, Assume, Print, Call}
use Rattle.bp_flat.specs.Views.{test_of}

abbrev pub assign_of : Assignment → Instruction
assign_of a = Assign a.targets a.values a.next

abbrev pub if_of : Branch → Instruction
if_of b = If (test_of b.test) b.next b.other

abbrev pub call_of : call.Call → Instruction
call_of c = Call c.callee c.arguments c.next

abbrev pub instruction_of : Action → Instruction
instruction_of (has.Skip m) = Skip m
instruction_of (has.Goto m) = Goto m
instruction_of has.Return = Return
instruction_of (has.Assign a) = assign_of a
instruction_of (has.If b) = if_of b
instruction_of (has.While b) = While (test_of b.test) b.next b.other
instruction_of (has.Assert test m) = Assert (test_of test) m
instruction_of (has.Assume test m) = Assume (test_of test) m
instruction_of (has.Print fs m) = Print fs m
instruction_of (has.Call c) = call_of c
