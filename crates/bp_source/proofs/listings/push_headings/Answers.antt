use Rattle.bp_source.proofs.Common.{◌∙◌, ◌++◌, ap, one_more, heading_item}
use Rattle.bp_source.proofs.listings.push_headings.Goals as goal

pub loop-heading-preserved : goal.loop-heading-preserved
loop-heading-preserved c =
    let added = c.in_ok-push_heading.ensures ∙ ap (λ h. c.loop-heading.items.items ++ heading_item h) c.heading-item.is in
    one_more heading_item _ _ _ c.args.headings.now c.loop-heading.heading-index c.heading-item.result c.loop-heading-test.true c.loop-heading.invariant added
