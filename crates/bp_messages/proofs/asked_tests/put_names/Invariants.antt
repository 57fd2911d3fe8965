use Rattle.bp_messages.proofs.Common.{length, map, string_bytes, IsLeft, names_text}
use Rattle.bp_messages.proofs.asked_tests.put_names.Given as goal

abbrev pub invariant-loop-name : goal.invariant-loop-name
invariant-loop-name g l =
    IsLeft g.W.Write.contents l.fn.sink l.sink (names_text l.json l.first l.between (map string_bytes l.fn.names))
    (names_text l.json l.before l.between (map string_bytes l.names))

abbrev pub decreases-loop-name : goal.decreases-loop-name
decreases-loop-name g l = length l.names
