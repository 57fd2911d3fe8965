use Rattle.bp_source.proofs.Common.{◌≡◌, ◌++◌, flat_map, take, name_item}
use Rattle.bp_source.proofs.programs.push_names.Given as goal

abbrev pub invariant-loop-name : goal.invariant-loop-name
invariant-loop-name l = l.items.items ≡ l.initial.items.items ++ flat_map name_item (take l.name-index l.names)
