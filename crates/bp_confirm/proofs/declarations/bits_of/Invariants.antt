use Rattle.bp_confirm.proofs.Common.{◌≡◌, ◌≤◌, ◌-◌, length, take}
use Rattle.bp_confirm.proofs.declarations.bits_of.Given as goal

abbrev pub invariant-loop-bit : goal.invariant-loop-bit
invariant-loop-bit l = record {
  within : l.n ≤ length l.setup.init;
  bits : l.bits.items ≡ take l.n l.setup.init;
}

abbrev pub decreases-loop-bit : goal.decreases-loop-bit
decreases-loop-bit l = length l.setup.init - l.n
