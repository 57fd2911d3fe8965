use Rattle.bp_confirm.proofs.Common.{◌≡◌, false, get_or, deciding}
use Rattle.bp_confirm.proofs.choices.deciding.Given as goal

abbrev pub invariant-loop-thread : goal.invariant-loop-thread
invariant-loop-thread l = l.choices.items ≡ deciding (λ i. get_or l.after_0 i false) (λ i. get_or l.after_1 i false) l.thread
