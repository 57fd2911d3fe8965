use Rattle.bp_trace.proofs.Common.{◌≡◌, ◌≤◌, ◌-◌, ◌+◌, ◌++◌, length, drop, ArePlayed, WatchesAll, line_count, calls_text}
use Rattle.bp_trace.proofs.plays.play.Given as goal

abbrev pub invariant-loop-calls : goal.invariant-loop-calls
invariant-loop-calls g l = record {
  played : ArePlayed l.session l.played;
  watched : WatchesAll g.O.Watcher.sees l.fn.session.code.tree l.setup l.fn.watcher l.played;
  within : l.size ≤ length l.text;
  parts : l.text ≡ calls_text l.version l.played.history.items ++ drop l.size l.text;
  number : l.line ≡ l.first + line_count l.version l.played.history.items;
  few : l.line ≤ l.first + l.size;
  code : l.session.code ≡ l.fn.session.code;
  setup : l.session.setup ≡ l.fn.session.setup;
}

abbrev pub decreases-loop-calls : goal.decreases-loop-calls
decreases-loop-calls g l = length l.text - l.size
