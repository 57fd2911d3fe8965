use Rattle.bp_source.proofs.Common.{◌≡◌, take, values_of, bits_by_name}
use Rattle.bp_source.proofs.initial_bits.bits_by_name.Given as goal

abbrev pub invariant-loop-global : goal.invariant-loop-global
invariant-loop-global l = l.bits.items ≡ bits_by_name (values_of l.named) (take l.global-index l.globals)
