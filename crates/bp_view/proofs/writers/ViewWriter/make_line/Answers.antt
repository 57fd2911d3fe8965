use Rattle.bp_view.proofs.Common.{if◌then◌else◌, None, ap, ◌≡◌, ◌∙◌, ◌++◌, ◌∷◌, [], suc, length, arith, length-append, subst, sym, option_map, rules, err_from_is_err_and, Flat, last_thread, Stands, configuration_after, granted_threads, is_granted, own_is, next_print_in, IsShownLine, Adds}
use Rattle.bp_view.proofs.RecordedCalls.{next_number, own_refused, print_refused}
use Rattle.bp_view.proofs.ShownLines.{printed_of}
use Rattle.bp_view.proofs.writers.ViewWriter.make_line.Goals as goal

pub returns-clause-made : goal.returns-clause-made
returns-clause-made c = λ t h has playable.
    let stood = rw (sym has.program) at has.stands in
    let s = c.args.self.now.session.setup in
    let x = c.args.recorded.now in
    let replayed = c.in_ok-replayed.replayed in
    let own = own_is t s h x [] playable replayed.call (rw has.program at (c.in_ok-replayed.ensures.answer h stood)) in
    let few = next_number t s h has.stands.state.legal (rw c.setup.ensures at c.is_in_range.ensures) in
    record {
      program = ap (λ (k : Flat). k.tree) c.in_ok-replayed.ensures.kept.0 ∙ has.program;
      stands = subst (λ y. Stands t c.replayed_call.new.session (h ++ y ∷ [])) own (rw has.program at (c.in_ok-replayed.ensures.stands h stood));
      last = c.last_step-self.ensures h has.last ∙ ap (λ y. last_thread (granted_threads (h ++ y ∷ []))) own;
      made = omega (arith, c.saturating_add-number.ensures, has.made, few, length-append h (x ∷ []));
    }

pub returns-clause-line : goal.returns-clause-line
returns-clause-line c = λ t text h has playable known members.
    let stood = rw (sym has.program) at has.stands in
    let s = c.args.self.now.session.setup in
    let x = c.args.recorded.now in
    let context = c.args.self.now.context in
    let y = c.in_ok-replayed.replayed.call in
    let answer = (rw has.program at (c.in_ok-replayed.ensures.answer h stood)) in
    let own = own_is t s h x [] playable y answer in
    let few = next_number t s h has.stands.state.legal (rw c.setup.ensures at c.is_in_range.ensures) in
    let number : c.saturating_add-number.result ≡ suc (length h) = omega (arith, c.saturating_add-number.ensures, has.made, few) in
    let replayed = rw has.program at (c.in_ok-replayed.ensures.is h stood has.last number) in
    let now = configuration_after t s h in
    let next = rw has.program at (c.in_ok-next.ensures h stood) in
    let values = option_map (λ v. v.items) c.in_ok-next.next in
    let thread = answer.thread in
    let own_next = next ∙ ap (next_print_in context.options.format now) (sym thread) in
    let is = c.printed_by-printed.ensures ∙ ap (λ o. if is_granted y.reply then o else None) c.as_deref.ensures.value in
    let printed = printed_of context.options.format now y _ values own_next is in
    let old = c.args.self.now.text.bytes.items in
    let new = c.push_shown.new.view.bytes.items in
    let shown = (c.push_shown.ensures t text s h y known (rw c.as_slice.ensures.value members) replayed printed c.in_ok-finish.ensures).1 in
    subst (λ z. Adds (IsShownLine t text s context.options context.widths context.history.now h z) old new) own shown

pub returns-in_err-next-clause-made : goal.returns-in_err-next-clause-made
returns-in_err-next-clause-made c = search (rules, err_from_is_err_and, print_refused)

pub returns-in_err-replayed-clause-made : goal.returns-in_err-replayed-clause-made
returns-in_err-replayed-clause-made c = search (rules, err_from_is_err_and, own_refused)
