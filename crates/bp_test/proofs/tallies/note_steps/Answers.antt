use Rattle.bp_test.proofs.Common.{◌≡◌, ◌<◌, ℕ, true, length, subst, is_marked, HasStep}
use Rattle.bp_test.proofs.MarkLemmas.{all_marked}
use Rattle.bp_test.proofs.tallies.note_steps.Goals as goal

pub returns-then-are_all_marked : goal.returns-then-are_all_marked
returns-then-are_all_marked c =
    all_marked (HasStep c.args.history.now) c.args.stepped.now.items
    (subst (λ v. (n : ℕ) → n < length v → is_marked v n ≡ true) c.as_slice.ensures.value (c.are_all_marked.ensures c.if-are_all_marked.true))
