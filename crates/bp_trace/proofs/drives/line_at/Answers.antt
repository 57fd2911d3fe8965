use Rattle.bp_trace.proofs.Common.{no_first, no_second, no_word_after, none_as, none_before}
use Rattle.bp_trace.proofs.drives.line_at.Goals as goal

pub returns-in_default : goal.returns-in_default
returns-in_default c = none_as (no_first c.in_default.ensures)

pub returns-in_default-bit_at : goal.returns-in_default-bit_at
returns-in_default-bit_at c = none_as (no_second c.in-Some.ensures (none_before c.in_default-bit_at.ensures))

pub returns-in-None : goal.returns-in-None
returns-in-None c = none_as (no_second c.in-Some.ensures (no_word_after c.in-Some-bit_at.ensures c.in-None.ensures))
