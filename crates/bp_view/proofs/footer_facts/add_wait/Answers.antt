use Rattle.bp_view.proofs.Common.{◌≡◌, ◌∙◌, ◌++◌, ◌∷◌, [], suc, true, map, subst, sym, rules, map-append, configuration_after, waits, condition_in, waiting, AreWaitsFacts}
use Rattle.bp_view.proofs.WholeFacts.{one_wait_more}
use Rattle.bp_view.proofs.FailedConditions.{at_assumption}
use Rattle.bp_view.proofs.footer_facts.add_wait.Goals as goal

pub returns-in_default : goal.returns-in_default
returns-in_default c = λ text h set stands are.
    let t = c.args.session.now.code.tree in
    let now = configuration_after t c.args.session.now.setup h in
    let does : waits t now c.args.thread ≡ true = sym (c.waits.ensures h stands) ∙ c.if-not-waits.false in
    absurd (rw c.in_default.is at c.in_ok-condition.ensures text h set stands (at_assumption t now c.args.thread does))

pub returns : goal.returns
returns c = λ text h set stands are.
    let t = c.args.session.now.code.tree in
    let now = configuration_after t c.args.session.now.setup h in
    let n = c.args.thread in
    let x = c.in-Some.condition in
    let before = map condition_in c.args.waits.now.items in
    let does : waits t now n ≡ true = sym (c.waits.ensures h stands) ∙ c.if-not-waits.false in
    let facts = rw c.in-Some.is at c.in_ok-condition.ensures text h set stands (at_assumption t now n does) in
    let pushed : map condition_in c.push.new.self.items ≡ before ++ condition_in x ∷ [] = search (rules, map-append) in
    subst (AreWaitsFacts text now (waiting t now (suc n))) (sym pushed) (one_wait_more t text now n before are does (condition_in x) facts.0 facts.1)
