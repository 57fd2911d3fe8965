use Rattle.bp_explore.proofs.Common.{reverse-append, ◌∷◌, [], drop, reverse, sym, ap, ◌∙◌, take_number, take_frame}
use Rattle.bp_explore.proofs.PackedNodes.{times_more}
use Rattle.bp_explore.proofs.cells.read_stack.Goals as goal

pub loop-n-preserved : goal.loop-n-preserved
loop-n-preserved c =
    let cells = c.args.cells.now in
    let next = c.read_frame-frame.new.at in
    times_more take_frame c.loop-n._n (take_number (drop c.args.at.now cells)).1 (reverse c.loop-n.stack.frames) (drop c.loop-n.at cells)
    c.read_frame-frame.result (drop next cells) c.loop-n.invariant
    (λ j. (sym c.read_frame-frame.ensures.frame j, sym c.read_frame-frame.ensures.rest j))
    ∙ ap (λ ys. (ys, drop next cells)) (sym (ap reverse c.in_ok-push.ensures ∙ reverse-append (c.read_frame-frame.result ∷ []) c.loop-n.stack.frames))
