use Rattle.bp_text.proofs.Common.{◌∙◌, ap, get_or, control_bytes, displayed_byte}
use Rattle.bp_text.proofs.DisplayedTexts.{displayed_at}
use Rattle.bp_text.proofs.Givings.{left_after}
use Rattle.bp_text.proofs.displayed_texts.put_displayed.Goals as goal

pub loop-at-preserved : goal.loop-at-preserved
loop-at-preserved g c =
    let text = c.args.text.now in
    let control = c.control_bytes-control.ensures ∙ ap (control_bytes c.loop-at.left) c.part_from.ensures in
    let byte = c.displayed_byte.ensures ∙ ap (λ n. displayed_byte n (get_or text c.loop-at.at 0)) control in
    let left = rw (displayed_at text c.loop-at.at c.loop-at.left c.loop-at-test.true) at c.loop-at.invariant in
    rw (c.saturating_sub-left.ensures, control) (left_after _ _ _ _ _ _ _ left (rw byte at c.put.ensures))
