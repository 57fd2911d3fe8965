use Rattle.bp_view.proofs.Common.{◌≡◌, ◌∙◌, ◌++◌, ap, length, refl, rules, subst, sym, vec_len, IsPlayable, AreSpans, AreContextLines}
use Rattle.bp_machine.proofs.SetupInRange.{fits}
use Rattle.bp_view.proofs.Growth.{held}
use Rattle.bp_view.proofs.ViewableContexts.{all_contexts}
use Rattle.bp_view.proofs.contexts.contexts_of.Goals as goal

pub spans_of-requires-clause-fits : goal.spans_of-requires-clause-fits
spans_of-requires-clause-fits c = fits c.args.code.now.tree c.in_ok-shown.shown.replayed.setup c.in_ok-shown.ensures.is.trace.fine

pub spans_of-requires-clause-playable : goal.spans_of-requires-clause-playable
spans_of-requires-clause-playable c =
    subst (IsPlayable c.args.code.now.tree c.in_ok-shown.shown.replayed.setup) (sym c.as_slice-history.ensures.value) c.in_ok-shown.ensures.is.trace.playable

pub returns-in_default : goal.returns-in_default
returns-in_default c = c.in_ok-shown.ensures.short

pub returns-in_default-into_bytes : goal.returns-in_default-into_bytes
returns-in_default-into_bytes c = c.in_ok-shown.ensures.short

pub returns : goal.returns
returns c =
    let t = c.args.code.now.tree in
    let text = c.args.text.now in
    let shown = c.in_ok-shown.ensures in
    let r = c.in_ok-shown.shown.replayed in
    let h = r.history.items in
    let context = c.context-context.ensures in
    let known = (rw c.checked.ensures at context.known) text shown.statements in
    let made = subst (λ g. AreSpans t r.setup g c.in-Ok.spans.items) c.as_slice-history.ensures.value c.in-Ok.ensures in
    let spans = subst (AreSpans t r.setup h) (sym c.deref.ensures.value) made in
    let size : length c.in-Ok.spans.items ≡ vec_len c.in-Ok.spans = search rules in
    let count = c.len.ensures ∙ sym size ∙ ap length (sym c.deref.ensures.value) in
    let (was, lines) = c.push_contexts.ensures t text r.setup h known spans c.in-Ok-into_bytes.ensures.0 in
    let head = rw (count, sym context.format) at (held c.new-view.ensures c.push_contexts_head.ensures was) in
    let all =
    all_contexts t text r.setup h c.context-context.result known context.widths context.columns (ap length context.history) _ spans c.in-Ok-into_bytes.lines.items
    (record { more = lines.more; is = c.in-Ok-into_bytes.ensures.1 ∙ lines.is ∙ ap (λ z. z ++ lines.more) head; more_are = lines.more_are }) in
    record {
      replayed = r;
      is = shown.is;
      lines_are = subst (λ f. AreContextLines f t text r.setup h c.in-Ok-into_bytes.lines.items) context.format all;
      report_is = refl;
    }
