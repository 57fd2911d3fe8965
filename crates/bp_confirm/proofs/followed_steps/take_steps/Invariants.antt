use Rattle.bp_confirm.proofs.Common.{◌≡◌, false, ◌≤◌, ◌-◌, ℕ, List, length, take, drop, [], Stands, LastBits, FollowAfter, last_bits, source_points_of, steps_of}
use Rattle.bp_confirm.proofs.followed_steps.take_steps.Given as goal

abbrev pub invariant-loop-n : goal.invariant-loop-n
invariant-loop-n l = record {
  within : l.n ≤ length l.lines;
  made : length l.history.items ≡ l.n;
  stands : Stands l.checked l.session l.history.items;
  follow : (text : List ℕ)
      → l.points ≡ source_points_of text l.checked
      → FollowAfter l.checked l.fn.session.setup (last_bits l.last) [] (steps_of text (take l.n l.lines)) (steps_of text (drop l.n l.lines)) l.history.items;
  any : (text : List ℕ) (other : LastBits)
      → l.points ≡ source_points_of text l.checked
      → l.asks ≡ false
      → FollowAfter l.checked l.fn.session.setup other [] (steps_of text (take l.n l.lines)) (steps_of text (drop l.n l.lines)) l.history.items;
  code : l.session.code ≡ l.fn.session.code;
  setup : l.session.setup ≡ l.fn.session.setup;
}

abbrev pub decreases-loop-n : goal.decreases-loop-n
decreases-loop-n l = length l.lines - l.n
