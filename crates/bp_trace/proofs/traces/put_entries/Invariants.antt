use Rattle.bp_trace.proofs.Common.{flat_map, map, string_bytes, take, Given, entry_line}
use Rattle.bp_trace.proofs.traces.put_entries.Given as goal

abbrev pub invariant-loop-name : goal.invariant-loop-name
invariant-loop-name g l =
    Given g.W.Write.contents l.fn.sink l.sink (flat_map entry_line (map string_bytes (take l.name-index l.names)))
