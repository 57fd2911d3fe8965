use Rattle.bp_trace.proofs.Common.{no_feed}
use Rattle.bp_trace.proofs.heads.version_at.Goals as goal

pub returns-in-None : goal.returns-in-None
returns-in-None c = no_feed c.in-Some.ensures c.in-None.ensures
