use Rattle.bp_trace.proofs.Common.{neither, none_as}
use Rattle.bp_trace.proofs.heads.version_word_at.Goals as goal

pub returns-in-None : goal.returns-in-None
returns-in-None c = none_as (neither c.in_default.ensures c.in-None.ensures)
