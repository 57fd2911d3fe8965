use Rattle.bp_confirm.proofs.Common.{ap, ◌≡◌, ◌∙◌, ◌+◌, [], take, refl, sym, subst, arith, Flat, Stands, seen_by, seen_after}
use Rattle.bp_confirm.proofs.StepsFollowed.{front_again}
use Rattle.bp_confirm.proofs.values.last_seen_of.Goals as goal

pub loop-n-init : goal.loop-n-init
loop-n-init c =
    let t = c.args.checked.now in
    let fresh = c.in_ok-again.ensures in
    let code = fresh.kept.0 ∙ c.code.ensures in
    let stands = rw (c.code.ensures, c.requires.code) at fresh.stands in
    let tree = ap (λ (k : Flat). k.tree) code ∙ c.requires.code in
    let setup = fresh.kept.1 ∙ c.setup.ensures in
    record {
      stands = stands;
      code = code;
      setup = setup;
      last_seen = λ text are. (
        subst (λ z. c.value_seen.result ≡ seen_by t z c.args.thread c.args.name.now []) setup
            (c.value_seen.ensures text [] tree are stands),
        λ k after within. absurd (omega (arith, after, within)),
      );
    }

pub loop-n-preserved : goal.loop-n-preserved
loop-n-preserved c =
    let t = c.args.checked.now in
    let s = c.args.session.now.setup in
    let h = c.args.history.now in
    let n = c.loop-n.n in
    let before = c.loop-n.invariant in
    let asked = c.ask_as_recorded.ensures in
    let own = c.in-Ok.ensures in
    let was = ap (λ (k : Flat). k.tree) before.code ∙ c.requires.code in
    let stood = rw (sym was) at before.stands in
    let answer = rw (was, before.setup) at (own.answer (take n h) stood) in
    let front = front_again t s h c.requires.playable n _ c.loop-n-test.true c.in-Ok._made answer in
    let stands = subst (Stands t c.ask_as_recorded.new.self) front (rw was at (own.stands (take n h) stood)) in
    let code = asked.kept.0 ∙ before.code in
    let tree = ap (λ (k : Flat). k.tree) code ∙ c.requires.code in
    let setup = asked.kept.1 ∙ before.setup in
    record {
      stands = stands;
      code = code;
      setup = setup;
      last_seen = λ text are.
          let there = c.value_seen-seen.ensures text (take (n + 1) h) tree are stands in
          let seen = subst (λ z. c.value_seen-seen.result ≡ seen_by t z c.args.thread c.args.name.now (take (n + 1) h)) setup there in
          let old = before.last_seen text are in
          let next = c.last_seen_after-last_seen.ensures in
          (next.seen ∙ seen, next.changed (seen_after t s h c.args.thread c.args.name.now) n refl old.0 old.1 seen);
    }
