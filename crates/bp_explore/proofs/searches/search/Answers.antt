use Rattle.bp_explore.proofs.Common.{◌≡◌, ◌+◌, refl, ap, ◌∙◌, subst, sym, arith, is_some, unwrap_or, IsInBound, HasMade, IsExhausted, IsExplored}
use Rattle.bp_explore.proofs.SearchedLayers.{made_before, made_so_far, first_searched, none_in_layer, next_searched, exhausted_at_all, neither_in_next, neither_less, exhausted_so_far, next_in_bound}
use Rattle.bp_explore.proofs.searches.search.Goals as goal

pub loop-last-init : goal.loop-last-init
loop-last-init g c =
    first_searched c.args.code.now c.args.setup.now (g.O.Observer.listed c.args.observer.now) c.args.with_deadlock c.args.space.now.nodes.items c.first_dead.new.self.nodes.items
    c.requires.begins c.requires.one c.first_dead.ensures.nodes (c.in-Ok.ensures.live c.in_default.is)

pub next_layer-requires : goal.next_layer-requires
next_layer-requires g c =
    let w = c.loop-last in
    (w.last, refl, subst (λ n. IsExplored (g.O.Observer.listed c.args.observer.now) c.args.code.now.instructions n w.space.nodes.items w.from w.last) (sym c.threads-threads.ensures) w.invariant.explored)

pub returns-then-not-goes_on : goal.returns-then-not-goes_on
returns-then-not-goes_on g c = λ own. let w = c.loop-last in
    (neither_in_next c.args.code.now c.args.setup.now (g.O.Observer.listed c.args.observer.now) c.requires.some c.args.with_deadlock w.space.nodes.items w.from w.last w.invariant own c.steps_alike.ensures, next_in_bound c.args.contexts c.unwrap_or-last-end.result w.last c.unwrap_or-last-end.ensures c.loop-last-test.true)

pub returns-in-Err-Short : goal.returns-in-Err-Short
returns-in-Err-Short g c = λ own. let w = c.loop-last in
    (neither_in_next c.args.code.now c.args.setup.now (g.O.Observer.listed c.args.observer.now) c.requires.some c.args.with_deadlock w.space.nodes.items w.from w.last w.invariant own c.steps_alike.ensures, next_in_bound c.args.contexts c.unwrap_or-last-end.result w.last c.unwrap_or-last-end.ensures c.loop-last-test.true)

pub returns-in-Err-Found : goal.returns-in-Err-Found
returns-in-Err-Found g c = λ own. let w = c.loop-last in
    (neither_in_next c.args.code.now c.args.setup.now (g.O.Observer.listed c.args.observer.now) c.requires.some c.args.with_deadlock w.space.nodes.items w.from w.last w.invariant own c.steps_alike.ensures, next_in_bound c.args.contexts c.unwrap_or-last-end.result w.last c.unwrap_or-last-end.ensures c.loop-last-test.true)

pub returns-in-Err-first_dead : goal.returns-in-Err-first_dead
returns-in-Err-first_dead g c = λ own. let w = c.loop-last in
    (neither_in_next c.args.code.now c.args.setup.now (g.O.Observer.listed c.args.observer.now) c.requires.some c.args.with_deadlock w.space.nodes.items w.from w.last w.invariant own c.steps_alike.ensures, next_in_bound c.args.contexts c.unwrap_or-last-end.result w.last c.unwrap_or-last-end.ensures c.loop-last-test.true)

pub returns-in-Some-dead : goal.returns-in-Some-dead
returns-in-Some-dead g c = λ own.
    let t = c.args.code.now.tree in
    let w = c.loop-last in
    let alike = c.steps_alike.ensures in (
      neither_in_next c.args.code.now c.args.setup.now (g.O.Observer.listed c.args.observer.now) c.requires.some c.args.with_deadlock w.space.nodes.items w.from w.last w.invariant own alike,
      c.in-Ok-first_dead.ensures.looked (ap is_some c.in-Some-dead.is),
      none_in_layer c.args.code.now c.args.setup.now (g.O.Observer.listed c.args.observer.now) c.requires.some c.args.with_deadlock w.space.nodes.items w.from w.last w.invariant
          c.next_layer.new.self.nodes.items c.in-Ok-next_layer.next c.threads-threads.result c.threads-threads.ensures c.in-Ok-next_layer.ensures own alike,
      next_in_bound c.args.contexts c.unwrap_or-last-end.result w.last c.unwrap_or-last-end.ensures c.loop-last-test.true,
    )

pub returns-then-from-len : goal.returns-then-from-len
returns-then-from-len g c = λ own.
    let t = c.args.code.now.tree in
    let w = c.loop-last in
    let after = c.first_dead-in-loop-last.new.self.nodes.items in
    let x = next_searched c.args.code.now c.args.setup.now (g.O.Observer.listed c.args.observer.now) c.requires.some c.args.with_deadlock w.space.nodes.items w.from w.last w.invariant
    c.next_layer.new.self.nodes.items c.in-Ok-next_layer.next c.threads-threads.result c.threads-threads.ensures c.in-Ok-next_layer.ensures
    after c.first_dead-in-loop-last.ensures.nodes (c.in-Ok-first_dead.ensures.live c.in_default-dead.is) in
    let alike = c.steps_alike.ensures in
    let all = c.if-from-len.true ∙ c.len-in-loop-last.ensures in (
      made_before c.args.code.now c.args.setup.now (g.O.Observer.listed c.args.observer.now) c.requires.some c.args.with_deadlock after c.in-Ok-next_layer.next (w.last + 1) x own alike w.last refl all,
      exhausted_at_all c.args.code.now c.args.setup.now (g.O.Observer.listed c.args.observer.now) c.requires.some c.args.with_deadlock after c.in-Ok-next_layer.next (w.last + 1) x own alike all,
    )

pub loop-last-preserved : goal.loop-last-preserved
loop-last-preserved g c =
    let w = c.loop-last in
    next_searched c.args.code.now c.args.setup.now (g.O.Observer.listed c.args.observer.now) c.requires.some c.args.with_deadlock w.space.nodes.items w.from w.last w.invariant
    c.next_layer.new.self.nodes.items c.in-Ok-next_layer.next c.threads-threads.result c.threads-threads.ensures c.in-Ok-next_layer.ensures
    _ c.first_dead-in-loop-last.ensures.nodes (c.in-Ok-first_dead.ensures.live c.in_default-dead.is)

pub returns-in-Some-contexts : goal.returns-in-Some-contexts
returns-in-Some-contexts g c = λ own.
    let t = c.args.code.now.tree in
    let w = c.loop-last in
    let s = c.args.setup.now in
    let o = g.O.Observer.listed c.args.observer.now in
    let b = c.args.with_deadlock in
    let bound : c.unwrap_or-last-end.result ≡ c.in-Some-contexts.contexts = c.unwrap_or-last-end.ensures ∙ ap (λ o. unwrap_or o 4294967295) c.in-Some-contexts.is in
    let all : w.last ≡ c.in-Some-contexts.contexts = omega (arith, bound, c.loop-last-test.false, w.auto.last-end) in (
      c.in-Some-contexts.is,
      subst (HasMade t s o w.space.nodes.items) all
          (made_so_far c.args.code.now s o c.requires.some b w.space.nodes.items w.from w.last w.invariant own c.steps_alike.ensures),
      subst (IsExhausted t s o b w.space.nodes.items) all
          (exhausted_so_far c.args.code.now s o c.requires.some b w.space.nodes.items w.from w.last w.invariant own c.steps_alike.ensures),
    )

pub returns-in-None : goal.returns-in-None
returns-in-None g c = λ own.
    let t = c.args.code.now.tree in
    let w = c.loop-last in
    let s = c.args.setup.now in
    let o = g.O.Observer.listed c.args.observer.now in
    let b = c.args.with_deadlock in
    let bound : c.unwrap_or-last-end.result ≡ 4294967295 = c.unwrap_or-last-end.ensures ∙ ap (λ o. unwrap_or o 4294967295) c.in-None.is in
    let all = exhausted_so_far c.args.code.now s o c.requires.some b w.space.nodes.items w.from w.last w.invariant own c.steps_alike.ensures in
    (λ m below. neither_less t s o b m w.last (omega (arith, bound, below, c.loop-last-test.false)) all.neither, subst (λ k. IsInBound k 4294967295) (sym c.in-None.is) tt)
