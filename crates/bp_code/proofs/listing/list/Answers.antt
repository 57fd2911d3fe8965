use Rattle.bp_code.proofs.Common.{written_at_end}
use Rattle.bp_code.proofs.listing.list.Goals as goal

pub returns : goal.returns
returns g c = written_at_end _ _ _ _ _ _ c.out-1.given c.new-sink.ensures c.put_procedures.ensures c.finish.ensures
