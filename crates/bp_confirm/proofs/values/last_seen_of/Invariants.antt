use Rattle.bp_confirm.proofs.Common.{◌≡◌, ℕ, List, take, Stands, seen_after, IsLastChange, source_points_of}
use Rattle.bp_confirm.proofs.values.last_seen_of.Given as goal

abbrev pub invariant-loop-n : goal.invariant-loop-n
invariant-loop-n l = record {
  stands : Stands l.checked l.again (take l.n l.history);
  code : l.again.code ≡ l.session.code;
  setup : l.again.setup ≡ l.session.setup;
  last_seen : (text : List ℕ)
      → l.points ≡ source_points_of text l.checked
      → let sees = seen_after l.checked l.session.setup l.history l.thread l.name in
      (l.last_seen.seen ≡ sees l.n) × IsLastChange sees l.n l.last_seen.changed;
}
