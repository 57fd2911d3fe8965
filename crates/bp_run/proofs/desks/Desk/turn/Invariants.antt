use Rattle.bp_run.proofs.Common.{◌≡◌, ◌+◌, ◌≤◌, ◌++◌, ◌∷◌, [], List, length, not, Call, is_terminated, AreSteps}
use Rattle.bp_run.proofs.desks.Desk.turn.Given as goal

abbrev pub invariant-loop-made : goal.invariant-loop-made
invariant-loop-made g l = record {
  steps : List Call;
  last : Call;
  sent : l.self.history ≡ l.fn.self.history ++ (steps ++ last ∷ []);
  room : l.fn.self.free ≤ l.self.free + l._made;
  stepped : AreSteps l.fn.seat.thread steps;
  thread : last.thread ≡ l.fn.seat.thread;
  answered : last.reply ≡ l.last;
  many : length steps + 1 ≡ l._made;
  counted : l.seat.calls ≡ l.fn.seat.calls + l._made;
  own_live : l.seat.is_open ≡ not (is_terminated l.self.setup l.self.history l.fn.seat.thread);
  code : l.self.code ≡ l.fn.self.code;
  setup : l.self.setup ≡ l.fn.self.setup;
  own : l.seat.thread ≡ l.fn.seat.thread;
}
