use Rattle.btrun.proofs.Common.{◌≡◌, map, string_bytes, take}
use Rattle.btrun.proofs.arguments.values.copies.Given as goal

abbrev pub invariant-loop-name : goal.invariant-loop-name
invariant-loop-name l = map string_bytes l.items.items ≡ map (λ n. n.now) (take l.name-index l.names)
