use Rattle.bp_text.proofs.Common.{◌∙◌, sym, Stops}
use Rattle.bp_text.proofs.SpansInTurn.{is_span, stops_at, stops_at_end, takes}
use Rattle.bp_text.proofs.formats.span_at.Goals as goal
use Rattle.bp_text.proofs.formats.span_at.Goals.{in-Some+in_default-after, in_default}

pub loop-byte-preserved : goal.loop-byte-preserved
loop-byte-preserved g c = takes c.loop-byte.invariant c.in-Some.ensures.cases.0 (sym c.in-Some-after.ensures)

pub returns : goal.returns
returns g c =
    let come = c.loop-byte.invariant in
    let stops : Stops (g.M.Machine.takes c.loop-byte.state) c.loop-byte.rest.now = elim c.match-split_first.branch [
      | in-Some+in_default-after w ↦ stops_at come w.in-Some.ensures.cases.0 (sym w.in_default-after.ensures)
      | in_default w ↦ stops_at_end come w.in_default.ensures.cases
    ] in
    is_span come stops (sym c.is_end.ensures ∙ c.if-not-is_end.false) c.part_before.ensures
