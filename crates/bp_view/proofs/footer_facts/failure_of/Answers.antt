use Rattle.bp_view.proofs.Common.{◌≡◌, ◌∙◌, ℕ, List, Option, sym, option_map, IsSomeAnd, rules, IfOk-weaker, Program, Call, Failed, configuration_after, outcome_of, IsRealFailure, SetupOf, real, condition_in, AreFailureFacts, AreStandingFacts}
use Rattle.bp_view.specs.declared.footer_facts.ConditionFacts.{ConditionFacts}
use Rattle.bp_view.proofs.FailedConditions.{assertion_facts, at_assertion}
use Rattle.bp_view.proofs.footer_facts.failure_of.Goals as goal

shown_failure : (t : Program) (text : List ℕ) (s : SetupOf) (h : List Call) (i : ℕ) → IsRealFailure t s h i → (o : Option ConditionFacts)
    → IsSomeAnd o (λ x. (x.thread ≡ i) × AreStandingFacts text (configuration_after t s h) (condition_in x))
    → AreFailureFacts t text s h (Failed i) (option_map condition_in o)
shown_failure t text s h i given1 o given2 = search (rules, assertion_facts)

pub returns : goal.returns
returns c = λ text h set stands outcome.
    let t = c.args.session.now.code.tree in
    let s = c.args.session.now.setup in
    let i = c.in-Failed.thread in
    let fails : outcome_of h ≡ Failed i = sym outcome ∙ c.in-Failed.is in
    let failure = real t s h i stands.state.legal fails in
    let own = c.condition_of.ensures text h set stands (at_assertion t s h i failure) in
    rw c.in-Failed.is (IfOk-weaker c.condition_of.result _ _ (λ o is. shown_failure t text s h i failure o is) own)
