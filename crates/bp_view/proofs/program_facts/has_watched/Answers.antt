use Rattle.bp_view.proofs.Common.{◌∙◌, ◌<◌, length, arith}
use Rattle.bp_view.proofs.ChangedEntries.{seen_some}
use Rattle.bp_view.proofs.program_facts.has_watched.Goals as goal

pub returns : goal.returns
returns c =
    let some : 0 < length c.args.names.now = grind (arith, c.is_empty.ensures, c.if-is_empty.false) in
    c.has_named.ensures ∙ seen_some c.args.names.now c.args.changes.now some
