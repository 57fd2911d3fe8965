use Rattle.bp_view.proofs.Common.{◌∙◌, ap, length, refl, subst, sym, take, take_min, Stands, IsStateText}
use Rattle.bp_view.proofs.Growth.{gained}
use Rattle.bp_view.proofs.states.state_at.Goals as goal

pub returns-in_default : goal.returns-in_default
returns-in_default c = c.in_ok-shown.ensures.0.short

pub returns : goal.returns
returns c =
    let t = c.args.code.now.tree in
    let text = c.args.text.now in
    let (shown, kept) = c.in_ok-shown.ensures in
    let r = c.in_ok-shown.shown.replayed in
    let n = c.args.number in
    let front = ap (λ k. take k r.history.items) kept.made ∙ take_min n r.history.items in
    let calls = c.calls_to-calls.ensures ∙ ap (take n) c.as_slice.ensures.value in
    let stands = subst (Stands t c.in_ok-shown.checkpoint.session) (front ∙ sym calls) kept.is.stands in
    let context = c.context-context.ensures in
    let known = (rw c.checked.ensures at context.known) text shown.statements in
    let (fine, same) = c.in-Ok.ensures in
    let made = gained c.push_state_of.new.view c.new-view.ensures (rw kept.is.program at (c.push_state_of.ensures text
    (rw (sym kept.is.program) at known) (rw (sym kept.is.program) at stands))) fine in
    let state = rw (ap length context.history, context.format, kept.is.setup, calls) at made in
    record {
      replayed = r;
      is = shown.is;
      state_is = subst (IsStateText c.args.format t text r.setup (take n r.history.items) (length r.history.items)) (sym same) state;
      report_is = refl;
    }
