use Rattle.bp_view.proofs.Common.{◌≡◌, ◌∙◌, ◌++◌, ◌∷◌, [], false, true, ap, refl, subst, sym, rules, err_from_is_err_and, configuration_after, is_granted, Stands, own_is, Span, AreSpans, IsStandingPoint}
use Rattle.bp_view.proofs.RecordedCalls.{asked_refused}
use Rattle.bp_view.proofs.SpansOfHistories.{spans_idle, spans_with, IsOwnStep}
use Rattle.bp_view.proofs.spans.play_call.Goals as goal

pub returns-in_ok-push_step-clause-stands : goal.returns-in_ok-push_step-clause-stands
returns-in_ok-push_step-clause-stands c = λ h stands playable.
    let t = c.args.session.now.code.tree in
    let s = c.args.session.now.setup in
    let own = own_is t s h c.args.recorded.now [] playable c.in_ok-call.call (c.in_ok-call.ensures.answer h stands) in
    subst (λ y. Stands t c.ask_as_recorded.new.self (h ++ y ∷ [])) own (c.in_ok-call.ensures.stands h stands)

pub returns-else-is_step-clause-stands : goal.returns-else-is_step-clause-stands
returns-else-is_step-clause-stands c = λ h stands playable.
    let t = c.args.session.now.code.tree in
    let s = c.args.session.now.setup in
    let own = own_is t s h c.args.recorded.now [] playable c.in_ok-call.call (c.in_ok-call.ensures.answer h stands) in
    subst (λ y. Stands t c.ask_as_recorded.new.self (h ++ y ∷ [])) own (c.in_ok-call.ensures.stands h stands)

pub returns-in_ok-push_step-clause-spans : goal.returns-in_ok-push_step-clause-spans
returns-in_ok-push_step-clause-spans c = λ h stands playable number are.
    let t = c.args.session.now.code.tree in
    let s = c.args.session.now.setup in
    let x = c.args.recorded.now in
    let own = own_is t s h x [] playable c.in_ok-call.call (c.in_ok-call.ensures.answer h stands) in
    let granted : is_granted x.reply ≡ true = ap (λ y. is_granted y.reply) (sym own) ∙ sym c.if-is_step.ensures in
    let later = subst (λ y. Stands t c.ask_as_recorded.new.self (h ++ y ∷ [])) own (c.in_ok-call.ensures.stands h stands) in
    let after = rw c.in_ok-call.ensures.kept.0 at (c.standing_point.ensures (h ++ x ∷ []) (rw (sym c.in_ok-call.ensures.kept.0) at later)) in
    let step : Span = record {
      thread = x.thread;
      first = c.args.number;
      last = c.args.number;
      before = c.standing_point-before.result;
      after = c.standing_point.result;
    } in
    let own_step : IsOwnStep t s h x step = record {
      thread = refl;
      first = number;
      last = number;
      before = c.standing_point-before.ensures h stands;
      after = subst (λ k. IsStandingPoint t (configuration_after t k (h ++ x ∷ [])) x.thread c.standing_point.result) c.in_ok-call.ensures.kept.1 after;
    } in
    subst (AreSpans t s (h ++ x ∷ [])) (sym c.in_ok-push_step.ensures) (spans_with t s h x step own_step c.args.spans.now.items are granted)

pub returns-else-is_step-clause-spans : goal.returns-else-is_step-clause-spans
returns-else-is_step-clause-spans c = λ h stands playable number are.
    let t = c.args.session.now.code.tree in
    let s = c.args.session.now.setup in
    let x = c.args.recorded.now in
    let own = own_is t s h x [] playable c.in_ok-call.call (c.in_ok-call.ensures.answer h stands) in
    let idle : is_granted x.reply ≡ false = ap (λ y. is_granted y.reply) (sym own) ∙ sym c.if-is_step.ensures in
    spans_idle t s h x c.args.spans.now.items are idle

pub returns-in_err-call-clause-stands : goal.returns-in_err-call-clause-stands
returns-in_err-call-clause-stands c = search (rules, err_from_is_err_and, asked_refused)
