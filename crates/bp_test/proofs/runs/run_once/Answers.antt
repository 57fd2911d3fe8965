use Rattle.bp_test.proofs.Common.{ℕ, [], sym, place_of, IsWaiting, MarksGrow}
use Rattle.bp_machine.proofs.SetupInRange.{stands_of}
use Rattle.bp_test.proofs.ReachedPlaces.{whole_marks}
use Rattle.bp_test.proofs.runs.run_once.Goals as goal

pub returns-clause-marks : goal.returns-clause-marks
returns-clause-marks c =
    let t = c.follow.new.session.code.tree in
    let s = c.follow.new.session.setup in
    let h = c.follow.new.history.items in
    let old = c.args.reached.now.items in
    let first = c.reach_waits.new.reached.items in
    let start : MarksGrow (place_of t) (λ x. (i : ℕ) × IsWaiting t s [] i x) old first =
    rw (c.in_ok-steps.ensures.kept.0, c.in_ok-steps.ensures.kept.1) (c.reach_waits.ensures [] (stands_of (sym c.in_ok-restart.ensures.code) c.in_ok-restart.ensures.stands)) in
    whole_marks t s h old first c.follow.new.reached.items c.reach_waits-2.new.reached.items start c.in_ok-steps.ensures.marks
    (c.reach_waits-2.ensures h c.in_ok-steps.ensures.stands)
