use Rattle.bp_trace.proofs.Common.{after_at, both_at, no_first, no_second, no_word_before, none_after}
use Rattle.bp_trace.proofs.EndLineAt.{has_end, no_end}
use Rattle.bp_trace.proofs.end_lines.end_at.Goals as goal

pub returns-in_default : goal.returns-in_default
returns-in_default c = no_end (no_word_before c.in_default.ensures)

pub returns-in_default-after_decimal : goal.returns-in_default-after_decimal
returns-in_default-after_decimal c = no_end (none_after c.in-Some.ensures (no_first c.in_default-after_decimal.ensures))

pub returns-in-None : goal.returns-in-None
returns-in-None c = no_end (none_after c.in-Some.ensures (no_second c.in-Some-after_decimal.ensures.1 c.in-None.ensures))

pub returns-in-Some-after_decimal-2 : goal.returns-in-Some-after_decimal-2
returns-in-Some-after_decimal-2 c = has_end (after_at c.in-Some.ensures (both_at c.in-Some-after_decimal.ensures.1 c.in-Some-after_decimal-2.ensures.1))
