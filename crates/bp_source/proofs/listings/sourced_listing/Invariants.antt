use Rattle.bp_source.proofs.Common.{◌++◌, ℕ, List, length, IsSourced}
use Rattle.bp_source.proofs.listings.sourced_listing.Given as goal

-- the text of the rest completes the text of the whole
abbrev pub invariant-loop-line : goal.invariant-loop-line
invariant-loop-line l =
    (written : List ℕ) → IsSourced l.rest l.left written → IsSourced l.listing l.initial.left (l.out.items ++ written)

abbrev pub decreases-loop-line : goal.decreases-loop-line
decreases-loop-line l = length l.rest
