use Rattle.bp_test.proofs.Common.{◌∙◌, sym, subst, arith, IsTallied}
use Rattle.bp_test.proofs.FirstFound.{none_of}
use Rattle.bp_test.proofs.batches.search.Goals as goal

pub loop-all-preserved : goal.loop-all-preserved
loop-all-preserved g c =
    let p = c.args.plan.now in
    let all = c.in_ok-all.all in
    let none = none_of all.found (sym c.is_some.ensures ∙ c.if-is_some.false) in record {
      within = omega arith;
      none = none;
      some = c.next_share-share.ensures.some c.loop-all.invariant.some;
      short = c.next_share-share.ensures.most;
      tallied =
          subst (λ o. IsTallied c.args.code.now.tree c.args.setup.now p.with_deadlock p.seed 0 all.end o all.tally)
          none c.in_ok-all.ensures.tallied;
    }
