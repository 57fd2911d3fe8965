use Rattle.bp_source.proofs.Common.{◌≡◌, take, map, string_bytes}
use Rattle.bp_source.proofs.initial_bits.copies.Given as goal

abbrev pub invariant-loop-name : goal.invariant-loop-name
invariant-loop-name l = map string_bytes l.items.items ≡ map string_bytes (take l.name-index l.names)
