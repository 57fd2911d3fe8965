use Rattle.bp_view.proofs.Common.{◌≡◌, ℕ, ◌+◌, add-one, arith, rules}
use Rattle.bp_view.proofs.BegunViews.{thread_more}
use Rattle.bp_view.proofs.Growth.{and_then}
use Rattle.bp_view.proofs.setup_lines.push_threads.Goals as goal

zero_left : (n : ℕ) → 0 + n ≡ n
zero_left n = omega arith

pub loop-thread-preserved : goal.loop-thread-preserved
loop-thread-preserved c = search (rules, add-one, thread_more, zero_left, and_then)
