use Rattle.bp_view.proofs.Common.{◌≡◌, length, add-one, arith, one_added}
use Rattle.bp_view.proofs.SpansOfHistories.{span_of}
use Rattle.bp_view.proofs.contexts.push_contexts.Goals as goal

pub loop-n-preserved : goal.loop-n-preserved
loop-n-preserved c = λ t text s h set are fine.
    let n = c.loop-n.n in
    let (was, line) = c.push_context.ensures t text s h set (span_of t s h c.args.spans.now are n _ c.loop-n-test.true) fine in
    let (first, lines) = c.loop-n.invariant t text s h set are was in
    (first, rw (add-one n) (one_added lines (rw (add-one n) at line)))

pub returns : goal.returns
returns c = λ t text s h set are.
    let all : c.loop-n.n ≡ length c.args.spans.now = omega (arith, c.loop-n-test.false, c.loop-n.auto.n-end) in
    rw all at (c.loop-n.invariant t text s h set are)
