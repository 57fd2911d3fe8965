use Rattle.bp_view.proofs.Common.{◌≡◌, ◌++◌, ◌∷◌, [], ℕ, List, Option, None, Some, true, false, MatchOption, rules, IsLeastWithin, granted_threads, is_granted, configuration_after-append, IsContext}
use Rattle.bp_machine.specs.declared.calls.Call.{Call as Answered}
use Rattle.bp_view.proofs.NextConfigurations.{next_of_call}
use Rattle.bp_view.proofs.checkpoints.replayed_call.Goals as goal

context_is : (h : List Answered) (x : Answered) (context : Option ℕ)
    → MatchOption context (is_granted x.reply ≡ false) (λ n. (is_granted x.reply ≡ true) × IsLeastWithin n (granted_threads (h ++ x ∷ [])))
    → IsContext h x context
context_is h x None e = e
context_is h x (Some n) e = e

pub returns-clause-is : goal.returns-clause-is
returns-clause-is c = search (rules, context_is, configuration_after-append, next_of_call)
