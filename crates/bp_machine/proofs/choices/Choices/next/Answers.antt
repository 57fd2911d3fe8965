use Rattle.bp_machine.proofs.Common.{subst, sym, IsAt}
use Rattle.bp_machine.proofs.StandsAfterTransition.{at_next_word}
use Rattle.bp_machine.proofs.choices.Choices.next.Goals as goal

pub returns-then-self-eq-LAST_PLACE-clause-after :
    goal.returns-then-self-eq-LAST_PLACE-clause-after
returns-then-self-eq-LAST_PLACE-clause-after c = λ seed thread n stands.
    at_next_word seed thread n _ (subst (λ x. IsAt x seed thread n) (sym c.self.view_is) stands)
    c.if-self-eq-LAST_PLACE.true _ _ c.next_word-self-inside.ensures
