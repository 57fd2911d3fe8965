use Rattle.bp_trace.proofs.Common.{at_as, neither, none_as, right_at}
use Rattle.bp_trace.proofs.heads.seed_word_at.Goals as goal

pub returns-in-None : goal.returns-in-None
returns-in-None c = none_as (neither c.in_default.ensures c.in-None.ensures)

pub returns-in-Some-long_number_at : goal.returns-in-Some-long_number_at
returns-in-Some-long_number_at c = at_as (right_at c.in_default.ensures c.in-Some-long_number_at.ensures)
