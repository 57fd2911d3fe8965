use Rattle.bp_code.proofs.Common.{subst, IsLeft, left_after, listing_text}
use Rattle.bp_code.proofs.ListingLines.{procedures_next}
use Rattle.bp_code.proofs.listing.put_procedures.Goals as goal

pub loop-n-preserved : goal.loop-n-preserved
loop-n-preserved g c =
    let code = c.args.code.now in
    let within = rw c.headings-heading-items.ensures at c.loop-n-test.true in
    let is = rw c.headings-heading-items.ensures at c.heading-item.is in
    let next = procedures_next code.instructions code.headings c.loop-n.n c.heading-item.result within is in
    let rest = subst (IsLeft _ _ _ (listing_text code)) next c.loop-n.invariant in
    let all = rw (c.instrs.ensures, c.entry-entry.ensures, c.end_of.ensures) at c.put_instructions.ensures in
    left_after _ _ _ _ _ _ _ (left_after _ _ _ _ _ _ _ rest c.put_heading.ensures) all
