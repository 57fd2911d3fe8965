use Rattle.bp_view.proofs.Common.{◌≡◌, ◌∙◌, Some, ap, is_some, refl, sym, false≢true, place, stack_of, configuration_after, next_decision}
use Rattle.bp_syntax.specs.Views.{decision_of}
use Rattle.bp_view.proofs.FailedConditions.{decision_is, position_is, standing_facts}
use Rattle.bp_view.proofs.footer_facts.condition_of.Goals as goal

pub returns-in_default-source_statement_of : goal.returns-in_default-source_statement_of
returns-in_default-source_statement_of c = λ text h set stands at.
    let t = c.args.session.now.code.tree in
    let now = configuration_after t c.args.session.now.setup h in
    absurd (c.in_default-source_statement_of.ensures.is t text now (stack_of now c.args.thread) set (c.in-Some.ensures h stands))

pub returns-in_default-position : goal.returns-in_default-position
returns-in_default-position c = λ text h set stands at.
    let t = c.args.session.now.code.tree in
    let i = c.args.thread in
    let now = configuration_after t c.args.session.now.setup h in
    let top = c.in-Some.ensures h stands in
    let shown = c.in-Some-source_statement_of.ensures.is t text now (stack_of now i) set top in
    let some = position_is t text now i at c.in-Some.top top c.in-Some-source_statement_of.statement.now shown in
    absurd (false≢true (ap is_some (sym c.in_default-position.is ∙ some)))

pub returns-in_default-2 : goal.returns-in_default-2
returns-in_default-2 c = λ text h set stands at.
    let t = c.args.session.now.code.tree in
    let i = c.args.thread in
    let now = configuration_after t c.args.session.now.setup h in
    let top = c.in-Some.ensures h stands in
    let shown = c.in-Some-source_statement_of.ensures.is t text now (stack_of now i) set top in
    let some = decision_is t text now i at c.in-Some.top top c.in-Some-source_statement_of.statement.now shown in
    let placed = rw set.procedures at c.in_ok-decider.ensures (place top.frame.procedure top.frame.left) in
    let none = rw c.in_default-2.is at placed top.next in
    absurd (false≢true (ap is_some (none ∙ some)))

pub returns : goal.returns
returns c = λ text h set stands at.
    let t = c.args.session.now.code.tree in
    let i = c.args.thread in
    let now = configuration_after t c.args.session.now.setup h in
    let top = c.in-Some.ensures h stands in
    let statement = c.in-Some-source_statement_of.statement.now in
    let shown = c.in-Some-source_statement_of.ensures.is t text now (stack_of now i) set top in
    let placed = rw set.procedures at c.in_ok-decider.ensures (place top.frame.procedure top.frame.left) in
    let decides : next_decision top.frame.left ≡ Some (decision_of c.in-Some-2.decider.now) = sym (rw c.in-Some-2.is at placed top.next) in
    let values = c.in_ok-values.ensures t text now i set top in
    let facts = standing_facts t text now i at c.in-Some.top top statement shown c.in-Some-position.position _ _ c.in-Some-position.is decides values in
    (refl, rw c.as_slice-shown.ensures.value facts)
