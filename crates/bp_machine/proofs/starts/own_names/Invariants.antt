use Rattle.bp_machine.proofs.Common.{◌≡◌, take, map, string_bytes}
use Rattle.bp_machine.proofs.starts.own_names.Given as goal

abbrev pub invariant-loop-name : goal.invariant-loop-name
invariant-loop-name l = map string_bytes l.names.items ≡ map (λ n. n.now) (take l.name-index l.entries)
