use Rattle.bp_confirm.proofs.Common.{before_at, no_first, no_second, no_word_after, no_word_before, none_after}
use Rattle.bp_confirm.proofs.fields.value_at.Goals as goal

pub returns-in_default : goal.returns-in_default
returns-in_default c = no_word_before c.in_default.ensures

pub returns-in_default-after : goal.returns-in_default-after
returns-in_default-after c = none_after c.in-Some.ensures (no_first (no_word_after c.in-Some-span_at.ensures c.in_default-after.ensures))

pub returns-in-None : goal.returns-in-None
returns-in-None c = none_after c.in-Some.ensures (no_second (before_at c.in-Some-span_at.ensures c.in-Some-after.ensures) c.in-None.ensures)
