use Rattle.bp_view.proofs.Common.{refl, footer_in}
use Rattle.bp_view.proofs.Growth.{gains}
use Rattle.bp_view.proofs.outcomes.push_footer_of.Goals as goal

pub returns : goal.returns
returns c = λ text h set stands outcome.
    gains c.push_footer.ensures (record { facts = footer_in c.in-Ok.footer; facts_are = c.in-Ok.ensures text h set.program stands outcome; is = refl })
