use Rattle.bp_text.proofs.Common.{arith, length-drop}
use Rattle.bp_text.proofs.Givings.{all_from, Appends_next}
use Rattle.bp_text.proofs.sinks.put.Goals as goal

pub loop-done-preserved : goal.loop-done-preserved
loop-done-preserved g c =
    let h = rw (all_from, length-drop) at c.in-Ok.ensures.bound in
    let t = c.loop-done-test.true in
    record {
      within = omega arith;
      grown = Appends_next (g.W.Write.contents c.args.out.now) _ _ _ _ _ c.loop-done.invariant.grown c.in-Ok.ensures.bytes;
    }
