use Rattle.bp_confirm.proofs.Common.{no_first, no_second, no_word_after, no_word_before, none_after, none_as}
use Rattle.bp_confirm.proofs.fields.step_at.Goals as goal

pub returns-in_default-after : goal.returns-in_default-after
returns-in_default-after c = none_as (no_second c.in-Some.ensures (no_word_before c.in_default-after.ensures))

pub returns-in_default-location_at : goal.returns-in_default-location_at
returns-in_default-location_at c = none_as (no_second c.in-Some.ensures (none_after c.in-Some-after.ensures (no_first c.in_default-location_at.ensures)))

pub returns-in_default-after-2 : goal.returns-in_default-after-2
returns-in_default-after-2 c =
    none_as (no_second c.in-Some.ensures (none_after c.in-Some-after.ensures
    (no_second c.in-Some-location_at.ensures (no_word_after c.values_at.ensures.at c.in_default-after-2.ensures))))
