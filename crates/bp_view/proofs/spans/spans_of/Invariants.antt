use Rattle.bp_view.proofs.Common.{◌≡◌, take, Stands, AreSpans}
use Rattle.bp_view.proofs.spans.spans_of.Given as goal

abbrev pub invariant-loop-n : goal.invariant-loop-n
invariant-loop-n l = record {
  stands : Stands l.code.tree l.session (take l.n l.history);
  spans : AreSpans l.code.tree l.setup (take l.n l.history) l.spans.items;
  code : l.session.code ≡ l.code;
  setup : l.session.setup ≡ l.setup;
}
