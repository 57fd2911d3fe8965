use Rattle.bp_confirm.proofs.Common.{◌≡◌, ◌∙◌, ◌+◌, ◌++◌, ◌∷◌, [], ◌<◌, length, drop, false, ap, refl, sym, subst, arith, length-append, err_from_is_err_and, Flat, stack_of, configuration_after, Stands, is_fork_on, last_bits, Follows, place_of, step_of, steps_of}
use Rattle.bp_confirm.proofs.LastWays.{no_place, unasked}
use Rattle.bp_confirm.proofs.NextLocations.{as_many_nexts, tells_next}
use Rattle.bp_confirm.proofs.StepsFollowed.{follow_next, not_followed}
use Rattle.bp_confirm.proofs.followed_steps.take_steps.Goals as goal

pub bounds-nexts-n : goal.bounds-nexts-n
bounds-nexts-n c = let size = as_many_nexts c.args.lines.now c.args.nexts.now c.requires.nexts in omega (arith, c.loop-n-test.true, c.len.ensures, size)

pub returns-in_err-call-clause-refused : goal.returns-in_err-call-clause-refused
returns-in_err-call-clause-refused c = λ text are.
    let last = last_bits c.args.last in
    let lines = c.args.lines.now in
    let n = c.loop-n.n in
    let inv = c.loop-n.invariant in
    let within : n < length lines = omega (arith, c.loop-n-test.true, c.len.ensures) in
    let bit = ap (λ z. last_bits c.args.last z.thread) (sym c.line.view_is) ∙ sym c.last_bit_of.ensures in
    let there = c.in_err-call.ensures.refused text last _ are
    (tells_next text last lines c.args.nexts.now n _ _ _ _ _ _ bit refl c.len-in-loop-n-2.ensures c.requires.nexts within c.at-line.ensures) in
    let p = err_from_is_err_and c.from_residual-in_err-call.result c.from_residual-in_err-call.ensures.1 in
    rw (p.1, p.2)
    (not_followed text c.args.checked.now c.args.session.now.setup last lines n c.in_err-call.field-0.0 within c.at-line.ensures inv.setup
    c.as_slice-made.ensures.value inv.made (inv.follow text are) there)

pub loop-n-preserved : goal.loop-n-preserved
loop-n-preserved c =
    let t = c.args.checked.now in
    let s = c.args.session.now.setup in
    let last = last_bits c.args.last in
    let lines = c.args.lines.now in
    let n = c.loop-n.n in
    let inv = c.loop-n.invariant in
    let is = c.at-line.ensures in
    let within : n < length lines = omega (arith, c.loop-n-test.true, c.len.ensures) in
    let bit = ap (λ z. last_bits c.args.last z.thread) (sym c.line.view_is) ∙ sym c.last_bit_of.ensures in
    let h = c.loop-n.history.items in
    let a = c.in_ok-call.call in
    let stands = subst (λ g. Stands t c.take_step.new.session (g ++ a ∷ [])) c.as_slice-made.ensures.value c.in_ok-call.ensures.stands in
    record {
      within = omega arith;
      made = ap length c.in_ok-keep.ensures.kept ∙ length-append h (a ∷ []) ∙ ap (λ k. k + 1) inv.made;
      stands = subst (λ g. Stands t c.take_step.new.session g) (sym c.in_ok-keep.ensures.kept) stands;
      follow = λ text are.
          let tells = tells_next text last lines c.args.nexts.now n _ _ _ _ _ _ bit refl c.len-in-loop-n-2.ensures c.requires.nexts within is in
          follow_next text t s last lines n within is inv.setup c.as_slice-made.ensures.value c.in_ok-keep.ensures.kept (inv.follow text are)
          (c.in_ok-call.ensures.follows text last _ are tells);
      any = λ text other are none.
          let later = steps_of text (drop (n + 1) lines) in
          let x = c.at-line.result.now in
          let tells = tells_next text last lines c.args.nexts.now n x x _ _ _ _ bit refl c.len-in-loop-n-2.ensures c.requires.nexts within is in
          let made = c.in_ok-call.ensures.follows text last later are tells in
          let own = subst (λ g. Follows t c.loop-n.session.setup last g (step_of text x) later a) c.as_slice-made.ensures.value made in
          let tree = ap (λ (k : Flat). k.tree) inv.code ∙ c.requires.code in
          let next = unasked t c.loop-n.session.setup last other h (step_of text x) later a
          (λ e. subst (λ z. is_fork_on (stack_of (configuration_after t c.loop-n.session.setup h) z.thread) ≡ false) c.line.view_is
          (rw tree at (c.asks_now-asks.ensures.here h (rw (sym tree) at inv.stands) none (no_place (place_of text) _ (sym tells.place ∙ e))))) own in
          follow_next text t s other lines n within is inv.setup refl c.in_ok-keep.ensures.kept
          (inv.any text other are (c.asks_now-asks.ensures.before none)) next;
      code = c.take_step.ensures.kept.0 ∙ inv.code;
      setup = c.take_step.ensures.kept.1 ∙ inv.setup;
    }
