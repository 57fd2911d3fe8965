use Rattle.bp_code.proofs.Common.{◌<◌, ◌≤◌, length, arith, left_after}
use Rattle.bp_code.proofs.ListingLines.{lines_next, lines_beyond}
use Rattle.bp_code.proofs.listing.put_instructions.Goals as goal
use Rattle.bp_code.proofs.listing.put_instructions.Goals.{in-Some, in_default}

pub loop-number-preserved : goal.loop-number-preserved
loop-number-preserved g c =
    let n = c.loop-number.number in
    elim c.match-get.branch [
      | in-Some w ↦
          let found = w.in-Some.ensures.lookup in
          let within : n < length c.args.instrs.now = omega (arith, found) in
          let next = lines_next c.args.instrs.now n c.args.end w.in-Some.instr.now c.loop-number-test.true within found.1 in
          rw w.sink-is (left_after _ _ _ _ _ _ _ (rw next at c.loop-number.invariant) w.put_instruction.ensures)
      | in_default w ↦
          let none = w.in_default.ensures.lookup in
          let past : length c.args.instrs.now ≤ n = omega (arith, none) in
          rw (w.sink-is, ← lines_beyond c.args.instrs.now n c.args.end past) c.loop-number.invariant
    ]
