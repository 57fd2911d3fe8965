use Rattle.bp_view.proofs.Common.{◌≡◌, take, max, longest}
use Rattle.bp_view.proofs.BegunViews.{place_items}
use Rattle.bp_view.proofs.view_contexts.longest_place.Given as goal

abbrev pub invariant-loop-statement : goal.invariant-loop-statement
invariant-loop-statement l = l.longest ≡ max 1 (longest (place_items (take l.statement-index l.statements)))
