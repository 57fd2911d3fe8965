use Rattle.bp_view.proofs.Common.{◌≡◌, ◌∙◌, ◌+◌, ◌<◌, suc, length, sym, subst, take, arith, rules, take_all, take_more, err_from_is_err_and, Stands, AreSpans}
use Rattle.std.proofs.Common.{length-take-le}
use Rattle.bp_view.proofs.RecordedCalls.{playable_here}
use Rattle.bp_view.proofs.spans.spans_of.Goals as goal

pub loop-n-preserved : goal.loop-n-preserved
loop-n-preserved c =
    let t = c.args.code.now.tree in
    let s = c.args.setup.now in
    let h = c.args.history.now in
    let i = c.loop-n.n in
    let before = c.loop-n.invariant in
    let after = c.in_ok-play_call.ensures in
    let inside : i < length h = c.loop-n-test.true in
    let count : i + 1 ≡ suc (length (take i h)) = omega (arith, length-take-le i h (omega (arith, inside))) in
    let playable = playable_here t s h c.requires.playable i _ inside in
    let stood = rw (sym before.code) at before.stands in
    record {
      stands = subst (Stands t c.play_call.new.session) (sym (take_more h i _ inside))
          (rw before.code at (after.stands (take i h) stood (rw (before.code, before.setup) playable)));
      spans =
          let are : AreSpans c.loop-n.session.code.tree c.loop-n.session.setup (take i h) c.loop-n.spans.items = rw (before.code, before.setup) before.spans in
          let more = rw before.code at (after.spans (take i h) stood (rw (before.code, before.setup) playable) count are) in
          subst (λ g. AreSpans t s g c.play_call.new.spans.items) (sym (take_more h i _ inside)) (rw before.setup at more);
      code = after.kept.0 ∙ before.code;
      setup = after.kept.1 ∙ before.setup;
    }

pub returns-in_err-play_call : goal.returns-in_err-play_call
returns-in_err-play_call c = search (rules, err_from_is_err_and, playable_here)

pub returns : goal.returns
returns c = search (rules, take_all)
