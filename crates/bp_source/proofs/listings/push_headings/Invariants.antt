use Rattle.bp_source.proofs.Common.{◌≡◌, ◌++◌, flat_map, take, heading_item}
use Rattle.bp_source.proofs.listings.push_headings.Given as goal

abbrev pub invariant-loop-heading : goal.invariant-loop-heading
invariant-loop-heading l = l.items.items ≡ l.initial.items.items ++ flat_map heading_item (take l.heading-index l.headings)
