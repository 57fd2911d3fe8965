use Rattle.bp_confirm.proofs.Common.{◌∙◌, ◌+◌, Some, ap, sym, refl, arith, position_at, ends_more, few_ends}
use Rattle.bp_confirm.proofs.ValuesSeen.{points_next}
use Rattle.bp_confirm.proofs.source_points.source_points_of.Goals.{in-Some+in_ok-push, in_default+in_ok-push-2}
use Rattle.bp_confirm.proofs.source_points.source_points_of.Goals as goal

pub loop-start-preserved : goal.loop-start-preserved
loop-start-preserved c =
    let text = c.args.text.now in
    let n = c.loop-start.start-index in
    let items = c.deref-start-items.result.now in
    let inv = c.loop-start.invariant in
    elim c.match-start.branch [
      | in-Some+in_ok-push w ↦
          record {
            here = w.here-is ∙ w.position_from-here.ensures ∙ ap (position_at text) (sym w.at-is);
            procedure = w.procedure-is ∙ omega (arith, inv.procedure, ends_more items n _ _ c.loop-start-test.true w.in-Some.is);
            points =
                points_next text items n _ _ c.loop-start.points.items c.match-start.points.items _ c.loop-start-test.true
                w.in-Some.is inv.points (ap (λ v. v.items) w.points-is ∙ w.in_ok-push.ensures.items)
                (ap Some w.position_from-here.ensures) inv.procedure;
          }
      | in_default+in_ok-push-2 w ↦
          record {
            here = w.here-is ∙ inv.here ∙ ap (position_at text) (sym w.at-is);
            procedure = w.procedure-is ∙ omega (arith, inv.procedure, ends_more items n _ _ c.loop-start-test.true w.in_default.is, few_ends (n + 1) items);
            points =
                points_next text items n _ _ c.loop-start.points.items c.match-start.points.items _ c.loop-start-test.true
                w.in_default.is inv.points (ap (λ v. v.items) w.points-is ∙ w.in_ok-push-2.ensures.items)
                refl inv.procedure;
          }
    ]
