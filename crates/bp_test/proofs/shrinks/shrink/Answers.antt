use Rattle.bp_test.proofs.Common.{None, sym, subst, ap, ◌∙◌, SetupOf, Fits, IsDriven, IsShrunkOf}
use Rattle.bp_test.proofs.ShrunkHistories.{starts, leads_to, shrunk_of, fits_unseeded}
use Rattle.bp_test.proofs.shrinks.shrink.Goals as goal

pub improve-requires : goal.improve-requires
improve-requires c =
    let setup = c.with_seed-setup.ensures ∙ ap {A = SetupOf} (λ y. record y { seed = None }) c.in_ok-try_copy.ensures in
    starts c.args.code.now c.args.setup.now _ c.in_ok-new.ensures.kept.0 (c.in_ok-new.ensures.kept.1 ∙ setup)
    c.args.history.now c.in_ok-from_slice.ensures.items c.requires.fits c.requires.legal c.requires.report c.requires.ends

pub used-requires-clause-fits : goal.used-requires-clause-fits
used-requires-clause-fits c =
    let setup = c.with_seed-setup.ensures ∙ ap {A = SetupOf} (λ y. record y { seed = None }) c.in_ok-try_copy.ensures in
    subst (Fits c.args.code.now.tree) (sym setup) (fits_unseeded c.args.code.now.tree c.args.setup.now c.requires.fits)

pub used-requires-clause-driven : goal.used-requires-clause-driven
used-requires-clause-driven c =
    let t = c.args.code.now.tree in
    let setup = c.with_seed-setup.ensures ∙ ap {A = SetupOf} (λ y. record y { seed = None }) c.in_ok-try_copy.ensures in
    let search = c.in_ok-search.search in
    subst (λ s. IsDriven t s search.end search.best) (sym setup)
    (leads_to c.args.code.now c.args.setup.now _ c.in_ok-new.ensures.kept.0 (c.in_ok-new.ensures.kept.1 ∙ setup) search c.in_ok-search.ensures)

pub returns : goal.returns
returns c =
    let t = c.args.code.now.tree in
    let setup = c.with_seed-setup.ensures ∙ ap {A = SetupOf} (λ y. record y { seed = None }) c.in_ok-try_copy.ensures in
    let search = c.in_ok-search.search in
    let driven = leads_to c.args.code.now c.args.setup.now _ c.in_ok-new.ensures.kept.0
    (c.in_ok-new.ensures.kept.1 ∙ setup) search c.in_ok-search.ensures in
    shrunk_of t c.args.setup.now c.args.history.now c.args.report.now c.args.end
    c.requires.report search c.in_ok-search.ensures.end c.in_ok-search.ensures.no_more driven
    c.in_ok-shrunk.shrunk (subst (λ s. IsShrunkOf t s search c.in_ok-shrunk.shrunk) setup c.in_ok-shrunk.ensures)
