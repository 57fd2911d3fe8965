use Rattle.bp_confirm.proofs.Common.{◌∙◌, ap, ◌⊎◌, inl, inr, false, get_or, refl, sym, subst, rules, source_points_of, IsDeadlocked, configuration_after, threads, deciding, steps_of}
use Rattle.bp_confirm.proofs.OneConfirmed.{decided, plain_confirmed, table_is, taken_by_zeros, taken_each}
use Rattle.bp_confirm.proofs.histories.confirm_lines.Goals as goal

pub returns-then-not-zeroed-clause-confirmed : goal.returns-then-not-zeroed-clause-confirmed
returns-then-not-zeroed-clause-confirmed c = λ well_formed.
    let t = c.args.code.now.tree in
    let s = c.args.setup.now in
    let text = c.args.text.now in
    let h = c.in_ok-zeroed.zeroed.history.items in
    let are = c.as_slice-points.ensures.value ∙ c.in_ok-points.ensures ∙ ap (source_points_of c.args.text.now) c.checked.ensures in
    let dead = subst (λ z. IsDeadlocked t (configuration_after t z h) ⊎ (IsDeadlocked t (configuration_after t z h) → ⊥)) c.in_ok-zeroed.ensures.kept.1
    (decided t c.in_ok-zeroed.zeroed.session h c.in_ok-zeroed.ensures.stands) in
    rw c.confirmed_with.ensures
    (plain_confirmed t s (steps_of text c.args.lines.now) h (λ other. c.in_ok-zeroed.ensures.unasked text other are c.if-not-zeroed.true) dead
    c.new.result.items c.new.ensures.items)

pub returns-in_default-clause-answer : goal.returns-in_default-clause-answer
returns-in_default-clause-answer c = search (rules, taken_by_zeros)

pub returns-in_default-2-clause-answer : goal.returns-in_default-2-clause-answer
returns-in_default-2-clause-answer c = search (rules, taken_by_zeros)

pub returns-then-not-is_deadlocked-clause-answer : goal.returns-then-not-is_deadlocked-clause-answer
returns-then-not-is_deadlocked-clause-answer c = search (rules, taken_by_zeros)

pub returns-then-not-is_deadlocked-clause-confirmed : goal.returns-then-not-is_deadlocked-clause-confirmed
returns-then-not-is_deadlocked-clause-confirmed c = λ well_formed.
    let t = c.args.code.now.tree in
    let text = c.args.text.now in
    let are = c.as_slice-points.ensures.value ∙ c.in_ok-points.ensures ∙ ap (source_points_of c.args.text.now) c.checked.ensures in
    let w = c.in-Some-2.waiting.history.items in
    let zeroed = c.in_ok-zeroed.ensures in
    let kept = rw c.in-Some-2.is at c.in_ok-waiting.ensures.kept in
    let stands = rw c.in-Some-2.is at c.in_ok-waiting.ensures.stands in
    let after_0 = rw zeroed.kept.0 at (c.in_ok-after_0.ensures c.in_ok-zeroed.zeroed.history.items (rw (sym zeroed.kept.0) at zeroed.stands)) in
    let decides = rw kept.0 at (c.is_deadlocked.ensures w (rw (sym kept.0) at stands)) in
    rw c.confirmed_with-then-not-is_deadlocked.ensures
    (record {
      zeroed = c.in_ok-zeroed.zeroed.history.items;
      oned = c.in-Some.oned.history.items;
      waiting = w;
      take = taken_each zeroed.kept.1 c.as_slice.ensures.value (zeroed.followed text are) (rw c.in-Some.is at (c.in_ok-oned.ensures.followed text are))
          after_0 (rw c.in-Some-2.is at (c.in_ok-waiting.ensures.followed text are));
      ends = inr (record {
        none = λ dead. let is = decides.1 (subst (λ k. IsDeadlocked t (configuration_after t k w)) (sym kept.1) dead) in
            absurd (let no = c.if-not-is_deadlocked.true in cc);
        is = refl;
        depends = c.new-then-not-is_deadlocked.ensures.items;
      });
    })

pub returns-clause-answer : goal.returns-clause-answer
returns-clause-answer c =
    let t = c.args.code.now.tree in
    let w = c.in-Some-2.waiting.history.items in
    let are = c.as_slice-points.ensures.value ∙ c.in_ok-points.ensures ∙ ap (source_points_of c.args.text.now) c.checked.ensures in
    let kept = rw c.in-Some-2.is at c.in_ok-waiting.ensures.kept in
    let stands = rw c.in-Some-2.is at c.in_ok-waiting.ensures.stands in
    let followed = rw c.in-Some-2.is at (c.in_ok-waiting.ensures.followed c.args.text.now are) in
    let decides = rw kept.0 at (c.is_deadlocked.ensures w (rw (sym kept.0) at stands)) in
    let dead = subst (λ k. IsDeadlocked t (configuration_after t k w)) kept.1 (decides.0 c.if-not-is_deadlocked.false) in
    rw c.confirmed_with-2.ensures
    (record { last = _; followed = followed; by_zeros = λ none. absurd (none dead) })

pub returns-clause-confirmed : goal.returns-clause-confirmed
returns-clause-confirmed c = λ well_formed.
    let t = c.args.code.now.tree in
    let text = c.args.text.now in
    let are = c.as_slice-points.ensures.value ∙ c.in_ok-points.ensures ∙ ap (source_points_of c.args.text.now) c.checked.ensures in
    let z = c.in_ok-zeroed.zeroed.history.items in
    let o = c.in-Some.oned.history.items in
    let w = c.in-Some-2.waiting.history.items in
    let zeroed = c.in_ok-zeroed.ensures in
    let kept = rw c.in-Some-2.is at c.in_ok-waiting.ensures.kept in
    let stands = rw c.in-Some-2.is at c.in_ok-waiting.ensures.stands in
    let o_kept = rw c.in-Some.is at c.in_ok-oned.ensures.kept in
    let o_stands = rw c.in-Some.is at c.in_ok-oned.ensures.stands in
    let after_0 = rw zeroed.kept.0 at (c.in_ok-after_0.ensures z (rw (sym zeroed.kept.0) at zeroed.stands)) in
    let after_1 = rw o_kept.0 at (c.in_ok-after_1.ensures o (rw (sym o_kept.0) at o_stands)) in
    let first = table_is t z c.in_ok-after_0.after_0.items zeroed.kept.1 after_0 in
    let second = table_is t o c.in_ok-after_1.after_1.items o_kept.1 after_1 in
    let decides = rw kept.0 at (c.is_deadlocked.ensures w (rw (sym kept.0) at stands)) in
    rw c.confirmed_with-2.ensures
    (record {
      zeroed = z;
      oned = o;
      waiting = w;
      take = taken_each zeroed.kept.1 c.as_slice.ensures.value (zeroed.followed text are) (rw c.in-Some.is at (c.in_ok-oned.ensures.followed text are))
          after_0 (rw c.in-Some-2.is at (c.in_ok-waiting.ensures.followed text are));
      ends = inl (record {
        deadlock = subst (λ k. IsDeadlocked t (configuration_after t k w)) kept.1 (decides.0 c.if-not-is_deadlocked.false);
        is = refl;
        depends =
            c.in_ok-choices.ensures
            ∙ (λ j. deciding (λ i. get_or (c.as_slice-2.ensures.value j) i false) (λ i. get_or (c.as_slice-3.ensures.value j) i false) (c.threads.ensures j))
            ∙ (λ j. deciding (first j) (second j) (threads c.args.setup.now));
      });
    })
