use Rattle.bp_trace.proofs.Common.{no_word_after}
use Rattle.bp_trace.proofs.end_lines.after_decimal.Goals as goal

pub returns-in-None : goal.returns-in-None
returns-in-None c = no_word_after c.in-Some.ensures c.in-None.ensures
