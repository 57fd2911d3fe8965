use Rattle.bp_confirm.proofs.Common.{◌∙◌, ap, Some, refl, sym, source_points_of}
use Rattle.bp_confirm.proofs.BitsOfInstructions.{if_clear, if_unclear}
use Rattle.bp_confirm.proofs.StepsFollowed.{ambiguous, answered, elsewhere, finished, follows, others_seen, tells_same}
use Rattle.bp_confirm.proofs.followed_steps.take_step.Goals as goal

pub returns-in-Err-clause-refused : goal.returns-in-Err-clause-refused
returns-in-Err-clause-refused c = λ text last later are tells.
    let stood = rw (sym c.requires.code) at c.requires.stands in
    let own = are ∙ ap (source_points_of text) (sym c.requires.code) in
    let top = rw c.requires.code at (c.in-Err.ensures text c.args.history.now own stood) in
    rw c.refusal_of.ensures (elsewhere text _ _ _ c.line.view_is later _ c.in-Err.number top.1 are top.0)

pub returns-in-Err-Finished-clause-refused : goal.returns-in-Err-Finished-clause-refused
returns-in-Err-Finished-clause-refused c = λ text last later are tells.
    let stood = rw (sym c.requires.code) at c.requires.stands in
    let own = are ∙ ap (source_points_of text) (sym c.requires.code) in
    let there = c.in-Ok.ensures text c.args.history.now own stood in
    let top = rw c.requires.code at there in
    let over = rw c.in-Err-Finished.field-0-is at (c.in-Err-Finished.ensures.refused c.args.history.now stood) in
    rw c.refusal_of-in-Err-Finished.ensures (finished text _ _ _ c.line.view_is later _ (Some c.in-Ok.top.number) (c.in-Ok.top, top.1, refl) are top.0 over)

pub returns-then-not-is_granted-clause-refused : goal.returns-then-not-is_granted-clause-refused
returns-then-not-is_granted-clause-refused c = λ text last later are tells.
    let stood = rw (sym c.requires.code) at c.requires.stands in
    let own = are ∙ ap (source_points_of text) (sym c.requires.code) in
    let there = c.in-Ok.ensures text c.args.history.now own stood in
    let top = rw c.requires.code at there in
    let bit = rw c.requires.code at (c.bit_at-inferred.ensures text c.args.history.now last _ later own (tells_same c.line.view_is tells) there.1) in
    let called = rw c.requires.code at (c.in-Ok-call_of.ensures.called c.args.history.now stood) in
    let asked = c.in-Ok-call_of.ensures.asked in
    rw c.refusal_of-then-not-is_granted.ensures
    (answered text _ _ _ c.line.view_is later _ (Some c.in-Ok.top.number) (c.in-Ok.top, top.1, refl) are top.0 last asked.0 called.0 (asked.1 ∙ bit.0)
    (sym c.is_granted.ensures ∙ c.if-not-is_granted.true))

pub returns-in-Some-clause-refused : goal.returns-in-Some-clause-refused
returns-in-Some-clause-refused c = λ text last later are tells.
    let stood = rw (sym c.requires.code) at c.requires.stands in
    let own = are ∙ ap (source_points_of text) (sym c.requires.code) in
    let there = c.in-Ok.ensures text c.args.history.now own stood in
    let top = rw c.requires.code at there in
    let bit = rw c.requires.code at (c.bit_at-inferred.ensures text c.args.history.now last _ later own (tells_same c.line.view_is tells) there.1) in
    let called = rw c.requires.code at (c.in-Ok-call_of.ensures.called c.args.history.now stood) in
    let asked = c.in-Ok-call_of.ensures.asked in
    let found = rw c.in-Some.is at (c.in_ok-difference.ensures text c.in-Ok-call_of.call are called.1) in
    rw c.refusal_of-in-Some.ensures
    (others_seen text _ _ _ c.line.view_is later _ (Some c.in-Ok.top.number) (c.in-Ok.top, top.1, refl) are top.0 last asked.0 called.0 (asked.1 ∙ bit.0)
    (sym c.is_granted.ensures ∙ c.if-not-is_granted.false) c.call_of.ensures.kept.1 c.in-Some.found found)

pub returns-then-not-inferred-clause-refused : goal.returns-then-not-inferred-clause-refused
returns-then-not-inferred-clause-refused c = λ text last later are tells.
    let stood = rw (sym c.requires.code) at c.requires.stands in
    let own = are ∙ ap (source_points_of text) (sym c.requires.code) in
    let there = c.in-Ok.ensures text c.args.history.now own stood in
    let top = rw c.requires.code at there in
    let bit = rw c.requires.code at (c.bit_at-inferred.ensures text c.args.history.now last _ later own (tells_same c.line.view_is tells) there.1) in
    let called = rw c.requires.code at (c.in-Ok-call_of.ensures.called c.args.history.now stood) in
    let asked = c.in-Ok-call_of.ensures.asked in
    let found = rw c.in_default.is at (c.in_ok-difference.ensures text c.in-Ok-call_of.call are called.1) in
    rw c.refusal_of-then-not-inferred.ensures
    (ambiguous text _ _ _ c.line.view_is later _ (Some c.in-Ok.top.number) (c.in-Ok.top, top.1, refl) are top.0 last asked.0 called.0 (asked.1 ∙ bit.0)
    (sym c.is_granted.ensures ∙ c.if-not-is_granted.false) c.call_of.ensures.kept.1 found
    (if_unclear c.bit_at-inferred.result.is_clear c.if-not-inferred.true _ _ bit.1))

pub returns-clause-follows : goal.returns-clause-follows
returns-clause-follows c = λ text last later are tells.
    let stood = rw (sym c.requires.code) at c.requires.stands in
    let own = are ∙ ap (source_points_of text) (sym c.requires.code) in
    let there = c.in-Ok.ensures text c.args.history.now own stood in
    let top = rw c.requires.code at there in
    let bit = rw c.requires.code at (c.bit_at-inferred.ensures text c.args.history.now last _ later own (tells_same c.line.view_is tells) there.1) in
    let called = rw c.requires.code at (c.in-Ok-call_of.ensures.called c.args.history.now stood) in
    let asked = c.in-Ok-call_of.ensures.asked in
    let found = rw c.in_default.is at (c.in_ok-difference.ensures text c.in-Ok-call_of.call are called.1) in
    follows text _ _ _ c.line.view_is later 0 (Some c.in-Ok.top.number) (c.in-Ok.top, top.1, refl) are top.0 last asked.0 called.0 (asked.1 ∙ bit.0)
    (sym c.is_granted.ensures ∙ c.if-not-is_granted.false) c.call_of.ensures.kept.1 found
    (if_clear c.bit_at-inferred.result.is_clear c.if-not-inferred.false _ _ bit.1)
