use Rattle.bp_view.proofs.Common.{◌≡◌, ◌++◌, ◌-◌, length, length-append, ap, arith, at_left, facts_in, indented}
use Rattle.bp_view.proofs.ShownLines.{place_length}
use Rattle.bp_view.proofs.Growth.{and_then, ends, regroup_pair}
use Rattle.bp_view.proofs.lines.push_call.Goals as goal

pub returns : goal.returns
returns c = record {
  grown = λ fine.
      let w = c.args.widths.now in
      let f = facts_in c.args.facts.now in
      let place = at_left w.place f.next.place in
      let statement = indented w.statement f.next.depth f.next.text in
      let had = (c.push_note_after.ensures.grown fine).0 in
      let (was, stated) = c.push_statement.ensures.grown had in
      let size : c.saturating_sub-size.result ≡ length statement =
      omega (
        arith,
        ap length stated,
        length-append c.push_fields.new.line.bytes.items (place ++ statement),
        length-append place statement,
        place_length w.place f.next.place,
      ) in
      let room : c.saturating_sub-2.result ≡ w.notes - length statement = omega arith in
      let noted = and_then c.push_statement.ensures (ends (rw room at c.push_note_after.ensures)) in
      (and_then c.push_fields.ensures (regroup_pair place statement _ noted)).grown fine;
}
