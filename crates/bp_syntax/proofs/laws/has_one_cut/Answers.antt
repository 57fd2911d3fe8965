use Rattle.bp_syntax.proofs.OneCut.{has_cut, one_cut}
use Rattle.bp_syntax.proofs.laws.has_one_cut.Goals as goal

pub returns : goal.returns
returns c text =
    let here = has_cut 0 text in
    (here.0, here.1, λ others other. one_cut 0 text others here.0 other here.1)
