use Rattle.bp_advice.proofs.Common.{sym, ap, ◌∙◌, arith, false≢true}
use Rattle.bp_advice.proofs.AllKinds.{all_judged, offered, left_out}
use Rattle.bp_advice.proofs.offers.kinds_after.Goals as goal
use Rattle.bp_advice.proofs.offers.kinds_after.Goals.{then-branch+in_ok-push, else-branch}

pub loop-kind-preserved : goal.loop-kind-preserved
loop-kind-preserved c =
    let front = c.args.front.now in
    let kinds = c.loop-kind.kinds.items in
    elim c.if-branch.branch [
      | then-branch+in_ok-push w ↦
          offered front kinds c.loop-kind.kind-index c.spelling_of.result.now c.spelling_of.ensures
          c.loop-kind.invariant c.if-branch.kinds.items (c.in_ok-may_follow.ensures.0 w.if-branch.true)
          (ap (λ v. v.items) w.kinds-is ∙ w.in_ok-push.ensures.items)
      | else-branch w ↦
          left_out front kinds c.loop-kind.kind-index c.spelling_of.result.now c.spelling_of.ensures
          c.loop-kind.invariant c.if-branch.kinds.items
          (λ f. false≢true (sym w.if-branch.false ∙ c.in_ok-may_follow.ensures.1 f)) (ap (λ v. v.items) w.kinds-is)
    ]

pub returns : goal.returns
returns c =
    let all = c.loop-kind-test.false in
    all_judged c.args.front.now c.loop-kind.kinds.items c.loop-kind.kind-index c.loop-kind.invariant (omega (arith, all))
