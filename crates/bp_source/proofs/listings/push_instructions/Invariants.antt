use Rattle.bp_source.proofs.Common.{◌≡◌, ◌++◌, drop, instruction_objects}
use Rattle.bp_source.proofs.listings.push_instructions.Given as goal

-- with the objects that are left, those that were added are all
abbrev pub invariant-loop-number : goal.invariant-loop-number
invariant-loop-number l =
    let instructions = l.code.instructions in
    l.out.items ++ instruction_objects l.procs l.number (drop l.number instructions) (drop l.number l.statements)
    ≡ l.initial.out.items ++ instruction_objects l.procs 0 instructions l.statements
