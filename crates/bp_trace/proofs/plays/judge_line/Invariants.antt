use Rattle.bp_trace.proofs.Common.{◌≡◌, ◌++◌, take, ArePlayed, Watches}
use Rattle.bp_trace.proofs.plays.judge_line.Given as goal

abbrev pub invariant-loop-call : goal.invariant-loop-call
invariant-loop-call g l = record {
  played : ArePlayed l.session l.played;
  watched : Watches g.O.Watcher.sees l.fn.session.code.tree l.fn.session.setup l.fn.played l.played;
  history : l.played.history.items ≡ l.fn.played.history.items ++ take l.call-index l.calls;
  code : l.session.code ≡ l.fn.session.code;
  setup : l.session.setup ≡ l.fn.session.setup;
}
