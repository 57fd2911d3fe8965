use Rattle.bp_view.proofs.Common.{◌≡◌, ◌∙◌, map, subst, sym, ap, add-one, arith, configuration_after, threads, condition_in, waiting, AreWaitsFacts}
use Rattle.bp_view.proofs.footer_facts.waits_of.Goals as goal

pub loop-thread-preserved : goal.loop-thread-preserved
loop-thread-preserved c = λ text h set stands.
    let t = c.args.session.now.code.tree in
    let now = configuration_after t c.args.session.now.setup h in
    subst (λ k. AreWaitsFacts text now (waiting t now k) (map condition_in c.add_wait.new.waits.items)) (sym (add-one c.loop-thread.thread))
    (c.in_ok-add_wait.ensures text h set stands (c.loop-thread.invariant text h set stands))

pub returns : goal.returns
returns c = λ text h set stands.
    let t = c.args.session.now.code.tree in
    let now = configuration_after t c.args.session.now.setup h in
    let at_end : c.loop-thread.thread ≡ c.threads-thread-end.result = omega (arith, c.loop-thread-test.false, c.loop-thread.auto.thread-end) in
    let count : c.loop-thread.thread ≡ threads c.args.session.now.setup = at_end ∙ c.threads-thread-end.ensures ∙ ap threads c.setup.ensures in
    rw c.if-not-deadlocked.false
    (subst (λ n. AreWaitsFacts text now (waiting t now n) (map condition_in c.loop-thread.waits.items)) count (c.loop-thread.invariant text h set stands))
