use Rattle.bp_view.proofs.outcomes.push_footer.Goals as goal

pub returns-in-Json : goal.returns-in-Json
returns-in-Json c = rw c.in-Json.is c.push_footer_object.ensures
