use Rattle.bp_explore.proofs.Common.{◌≡◌, take, granted_calls, Stands, IsPlayedTo}
use Rattle.bp_explore.proofs.found_runs.play.Given as goal

abbrev pub invariant-loop-call : goal.invariant-loop-call
invariant-loop-call g l = record {
  stands : Stands l.session.code.tree l.session (take l.call-index l.calls);
  made : (g.O.Observer.listed l.observer).is_of l.session.code.tree
      → IsPlayedTo l.session.code.tree l.session.setup (g.O.Observer.listed l.observer) (take l.call-index l.calls) l.made;
  granted : granted_calls (take l.call-index l.calls) ≡ take l.call-index l.calls;
  code : l.session.code ≡ l.fn.session.code;
  setup : l.session.setup ≡ l.fn.session.setup;
}
