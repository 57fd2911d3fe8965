-- Lists in other groups.
use Rattle.bp_syntax.proofs.Common.{append_assoc, append-nil}

-- however its parts are grouped, a list is the same: `simp regrouped`
pub ruleset regrouped = (append_assoc, append-nil)
