use Rattle.bp_trace.proofs.Common.{after_at, no_feed, no_word_before, none_after, none_in_line}
use Rattle.bp_trace.proofs.heads.number_line_at.Goals as goal

pub returns-in_default : goal.returns-in_default
returns-in_default c = none_in_line (no_word_before c.in_default.ensures)

pub returns-in_default-long_number_at : goal.returns-in_default-long_number_at
returns-in_default-long_number_at c = none_in_line (none_after c.in-Some.ensures c.in_default-long_number_at.ensures)

pub returns-in-None : goal.returns-in-None
returns-in-None c = no_feed (after_at c.in-Some.ensures c.in-Some-long_number_at.ensures) c.in-None.ensures
