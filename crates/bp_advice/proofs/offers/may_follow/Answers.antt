use Rattle.bp_advice.proofs.Common.{◌≡◌, ◌↔◌, ◌++◌, ◌∷◌, IsTrue, IfOk, rules, subst, BeginsProgram}
use Rattle.bp_advice.proofs.offers.may_follow.Goals as goal

pub returns : goal.returns
returns c =
    let e : c.as_slice.result.now ≡ c.args.front.now ++ 10 ∷ c.args.token.now = search rules in
    subst (λ text. IfOk c.begins_program.result (λ b. IsTrue b ↔ BeginsProgram text)) e c.begins_program.ensures
