use Rattle.bp_trace.proofs.Common.{after_at, no_feed, no_word_before, none_in_line}
use Rattle.bp_trace.proofs.heads.seed_at.Goals as goal

pub returns-in_default : goal.returns-in_default
returns-in_default c = none_in_line (no_word_before c.in_default.ensures)

pub returns-in-None : goal.returns-in-None
returns-in-None c = no_feed (after_at c.in-Some.ensures c.in-Some-seed_word_at.ensures) c.in-None.ensures
