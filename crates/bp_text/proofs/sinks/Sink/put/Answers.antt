use Rattle.bp_text.proofs.Common.{refl}
use Rattle.bp_text.proofs.Givings.{given_written}
use Rattle.bp_text.proofs.sinks.Sink.put.Goals as goal

pub returns : goal.returns
returns g c = given_written _ _ _ _ c.put.result refl c.if-self.false c.is_err-self.ensures.value c.put.ensures
