use Rattle.bp_view.proofs.Common.{◌≡◌, ◌∙◌, ap, ap₂, drop, subst, rules, Procedure, bits_of, place, valuation_of, variables, Valuation, stack_of, configuration_after, AreFrameFacts}
use Rattle.bp_view.proofs.PlacedStacks.{frame_facts, frame_with, from_here}
use Rattle.bp_view.proofs.state_facts.frame_below.Goals as goal

pub returns-in_err-top : goal.returns-in_err-top
returns-in_err-top c = search (rules, from_here)

pub returns-in_err-statement : goal.returns-in_err-statement
returns-in_err-statement c = λ text h f set stands at.
    let t = c.args.session.now.code.tree in
    let now = configuration_after t c.args.session.now.setup h in
    absurd (c.in_err-statement.ensures.is t text now (drop c.args.above (stack_of now c.args.thread)) set (c.in_ok-top.ensures h stands))

pub returns : goal.returns
returns c = λ text h f set stands at.
    let t = c.args.session.now.code.tree in
    let now = configuration_after t c.args.session.now.setup h in
    let n = c.args.above in
    let x = c.in_ok-top.top in
    let statement = c.in_ok-statement.statement.now in
    let left = drop n (stack_of now c.args.thread) in
    let top = c.in_ok-top.ensures h stands in
    let some = c.in_ok-proc.ensures t text (place top.frame.procedure top.frame.left) set.statements set.procedures top.next in
    let own : top.frame.procedure ≡ c.in_ok-proc.proc.now = cc in
    let values : Procedure → Valuation = λ p. valuation_of (variables p) (bits_of x.store.locals) in
    let here = from_here (stack_of now c.args.thread) n f at in
    let there = top.stack in
    let same : top.frame ≡ f = cc in
    let facts = frame_facts text t.procedures n top.frame statement (c.in_ok-statement.ensures.is t text now left set top) in
    rw (c.as_slice.ensures.value, c.as_slice-2.ensures.value)
    (subst (λ g. AreFrameFacts text n g (frame_with n c.in_ok-proc.proc.now (values c.in_ok-proc.proc.now) statement)) same
    (subst (AreFrameFacts text n top.frame) (ap₂ (λ p l. frame_with n p l statement) own (top.locals ∙ ap values own)) facts))
