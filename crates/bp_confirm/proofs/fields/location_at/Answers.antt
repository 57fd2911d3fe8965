use Rattle.bp_confirm.proofs.Common.{after_at, at_as, both_at, left_at, neither, no_first, no_word_before, none_after, none_as, right_at, word_at, refl}
use Rattle.bp_confirm.proofs.fields.location_at.Goals as goal

pub returns-in-Some : goal.returns-in-Some
returns-in-Some c = at_as (left_at c.in-Some.ensures)

pub returns-in_default-short_at : goal.returns-in_default-short_at
returns-in_default-short_at c = none_as (neither c.in_default.ensures (no_first c.in_default-short_at.ensures))

pub returns-in_default-after : goal.returns-in_default-after
returns-in_default-after c =
    at_as (right_at c.in_default.ensures (both_at c.in-Some-short_at.ensures (right_at (no_word_before c.in_default-after.ensures) (word_at refl))))

pub returns-in_default-short_at-2 : goal.returns-in_default-short_at-2
returns-in_default-short_at-2 c =
    at_as (right_at c.in_default.ensures (both_at c.in-Some-short_at.ensures
    (right_at (none_after c.in-Some-after.ensures c.in_default-short_at-2.ensures) (word_at refl))))

pub returns : goal.returns
returns c =
    at_as (right_at c.in_default.ensures (both_at c.in-Some-short_at.ensures (left_at (after_at c.in-Some-after.ensures c.in-Some-short_at-2.ensures))))
