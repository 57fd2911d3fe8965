use Rattle.bp_test.proofs.Common.{◌≡◌, [], rules, refl, ap, ◌∙◌, subst, Stands, no_call, IsKey, has_refusal, place_of, IsReachedByCall, MarksGrow}
use Rattle.bp_test.specs.declared.runs.TheConstants.{FIRST_KEY}
use Rattle.bp_test.proofs.TallyLemmas.{key_of_call}
use Rattle.bp_test.proofs.Plays.{smaller, refusal_of_call}
use Rattle.bp_test.proofs.ReachedPlaces.{marks_of_call, none_by_call}
use Rattle.bp_test.proofs.runs.follow.Goals.{After-reach_wait}
use Rattle.bp_test.proofs.runs.follow.Goals as goal

pub loop-thread-init : goal.loop-thread-init
loop-thread-init c =
    let t = c.args.session.now.code.tree in
    let none : [] ≡ c.clear.new.self.items = search rules in record {
      stands = subst (Stands t c.args.session.now) none c.requires.stands;
      code = refl;
      setup = refl;
      within = c.requires.within;
      here = c.requires.here;
      marks =
          subst
          (λ h. MarksGrow (place_of t) (IsReachedByCall t c.args.session.now.setup h) c.args.reached.now.items c.args.reached.now.items)
          none (none_by_call t c.args.session.now.setup c.args.reached.now.items);
      key = subst (λ h. IsKey t c.args.session.now.setup h FIRST_KEY) none no_call;
      refused = ap has_refusal none;
    }

pub loop-thread-smaller : goal.loop-thread-smaller
loop-thread-smaller c =
    smaller c.loop-thread.session c.play.new.session c.loop-thread.history.items c.play.new.history.items
    c.play.ensures.kept.1 c.in_ok-reply.ensures.stands c.in_ok-reply.ensures.longer

-- the marks after an attempt
marks_now : (c : After-reach_wait)
    → MarksGrow (place_of c.play.new.session.code.tree) (IsReachedByCall c.play.new.session.code.tree c.play.new.session.setup c.play.new.history.items)
    c.args.reached.now.items c.reach_wait.new.reached.items
marks_now c =
    let t = c.loop-thread.session.code.tree in
    rw c.play.ensures.kept.0 (marks_of_call t c.loop-thread.session.setup c.play.new.session.setup c.loop-thread.history.items
    c.play.new.history.items _ _ _ c.args.reached.now.items c.loop-thread.reached.items c.note.new.reached.items
    c.reach_wait.new.reached.items
    c.play.ensures.kept.1 c.in_ok-reply.ensures.grown
    (c.in-Some.ensures.here c.loop-thread.history.items c.loop-thread.invariant.stands)
    c.note.ensures.marks (rw c.play.ensures.kept.0 at (c.reach_wait.ensures c.play.new.history.items c.in_ok-reply.ensures.stands
    (c.next_number-next.ensures c.play.new.history.items c.in_ok-reply.ensures.stands)))
    c.loop-thread.invariant.marks)

pub returns-then-eq-clause-marks : goal.returns-then-eq-clause-marks
returns-then-eq-clause-marks c = marks_now (goal.at.returns-then-eq-clause-marks c).After-reach_wait

pub loop-thread-preserved : goal.loop-thread-preserved
loop-thread-preserved c = record {
  stands = c.in_ok-reply.ensures.stands;
  code = c.play.ensures.kept.0 ∙ c.loop-thread.invariant.code;
  setup = c.play.ensures.kept.1 ∙ c.loop-thread.invariant.setup;
  within = rw (c.in-Some.ensures.current, c.play.ensures.kept.1) c.in-Some.ensures.next;
  here = λ h stands. rw c.in-Some.ensures.current (c.next_number-next.ensures h stands);
  marks = marks_now (goal.at.loop-thread-preserved c).After-reach_wait;
  key =
      let t = c.loop-thread.session.code.tree in
      rw c.play.ensures.kept.0 (key_of_call t c.loop-thread.session.setup c.play.new.session.setup c.loop-thread.history.items
      c.play.new.history.items _ _ _ c.loop-thread.run.key _
      c.play.ensures.kept.1 c.in_ok-reply.ensures.grown
      (c.in-Some.ensures.here c.loop-thread.history.items c.loop-thread.invariant.stands)
      c.note.ensures.key c.loop-thread.invariant.key);
  refused =
      refusal_of_call c.loop-thread.history.items c.play.new.history.items _ _ c.loop-thread.run.was_refused _ c.in_ok-reply.ensures.grown
      c.note.ensures.refused c.loop-thread.invariant.refused;
}

pub returns-then-eq-clause-key : goal.returns-then-eq-clause-key
returns-then-eq-clause-key c = search (rules, key_of_call)
