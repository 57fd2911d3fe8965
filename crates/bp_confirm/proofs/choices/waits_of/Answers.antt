use Rattle.bp_confirm.proofs.Common.{◌∙◌, ◌+◌, [], ◌∷◌, length, ap, length-append, waits_after}
use Rattle.bp_confirm.proofs.LinesKept.{table_more}
use Rattle.bp_confirm.proofs.choices.waits_of.Goals as goal

pub loop-thread-preserved : goal.loop-thread-preserved
loop-thread-preserved c =
    let n = c.loop-thread.thread in
    let inv = c.loop-thread.invariant in
    let is = c.in_ok-push.ensures.items in
    record {
      size = ap length is ∙ length-append c.loop-thread.waits.items (c.waits.result ∷ []) ∙ ap (λ k. k + 1) inv.size;
      each = λ h of.
          let t = c.args.session.now.code.tree in
          table_more (waits_after t c.args.session.now.setup h) c.loop-thread.waits.items c.push.new.self.items c.waits.result n inv.size is
          (c.waits.ensures h of) (inv.each h of);
    }
