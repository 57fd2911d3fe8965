use Rattle.btrun.proofs.Common.{◌≡◌, drop, map, string_bytes, asks_for_json}
use Rattle.btrun.proofs.arguments.usages.asks_for_json.Given as goal

abbrev pub invariant-loop-word : goal.invariant-loop-word
invariant-loop-word l = asks_for_json (map string_bytes (drop l.word-index l.arguments)) ≡ asks_for_json (map string_bytes l.arguments)
