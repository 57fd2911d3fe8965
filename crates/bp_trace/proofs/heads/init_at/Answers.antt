use Rattle.bp_trace.proofs.Common.{after_at, no_feed, no_word_before, none_in_line}
use Rattle.bp_trace.proofs.heads.init_at.Goals as goal

pub returns-in_default : goal.returns-in_default
returns-in_default c = none_in_line (no_word_before c.in_default.ensures)

pub returns-in_default-after : goal.returns-in_default-after
returns-in_default-after c = no_feed (after_at c.in-Some.ensures (rw c.in-Some-2.is at c.in_ok-bits.ensures)) c.in_default-after.ensures
