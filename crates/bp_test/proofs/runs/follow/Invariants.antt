use Rattle.bp_test.proofs.Common.{◌≡◌, ◌*◌, ◌-◌, ◌<◌, length, Stands, threads, IsKey, has_refusal, place_of, IsNextOf, IsReachedByCall, MarksGrow}
use Rattle.bp_test.proofs.runs.follow.Given as goal

abbrev pub invariant-loop-thread : goal.invariant-loop-thread
invariant-loop-thread l = record {
  stands : Stands l.session.code.tree l.session l.history.items;
  code : l.session.code ≡ l.fn.session.code;
  setup : l.session.setup ≡ l.fn.session.setup;
  within : l.scheduler.current < threads l.session.setup;
  here : IsNextOf l.session l.scheduler.current l.scheduler.number;
  marks : let t = l.session.code.tree in
      MarksGrow (place_of t) (IsReachedByCall t l.session.setup l.history.items) l.fn.reached.items l.reached.items;
  key : IsKey l.session.code.tree l.session.setup l.history.items l.run.key;
  refused : l.run.was_refused ≡ has_refusal l.history.items;
}

abbrev pub decreases-loop-thread : goal.decreases-loop-thread
decreases-loop-thread l = threads l.session.setup * l.session.setup.calls - length l.history.items
