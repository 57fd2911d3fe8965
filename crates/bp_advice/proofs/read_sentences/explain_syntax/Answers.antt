use Rattle.bp_advice.proofs.Common.{Result, Ok, Err, IfOk, inr}
use Rattle.bp_advice.proofs.read_sentences.explain_syntax.Goals as goal

if_ok : {A E : Type 0} {P Q : A → Type 0} (r : Result A E) → ((a : A) → P a → Q a) → IfOk r P → IfOk r Q
if_ok (Ok a) f p = f a p
if_ok (Err e) f p = p

pub returns-in-Some : goal.returns-in-Some
returns-in-Some c =
    if_ok c.about_place.result (λ v explains. (c.in-Some.place, inr (rw c.in-Some.is at c.in_ok-place.ensures), explains)) c.about_place.ensures
