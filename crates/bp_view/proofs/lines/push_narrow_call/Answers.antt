use Rattle.bp_view.proofs.Common.{◌≡◌, ◌∙◌, ◌-◌, ◌++◌, [], ◌∷◌, length, length-append, ap, arith, concat, at_left, regrouped, facts_in, field_texts, note_text, standing_text, shortened}
use Rattle.bp_view.proofs.Growth.{held}
use Rattle.bp_view.proofs.lines.push_narrow_call.Goals as goal

pub returns : goal.returns
returns c = record {
  grown = λ fine.
      let f = facts_in c.args.facts.now in
      let w = c.args.widths.now in
      let old = c.args.line.now.bytes.items in
      let columns = c.args.columns in
      let fields = concat (field_texts w f) in
      let note = note_text f c.args.calls in
      let standing = standing_text w f in
      let room = columns - length fields - length note in
      let begun = c.push_fields.new.line.bytes.items in
      let noted = held c.new-note.ensures c.push_note.ensures in
      let joined = c.cut_after-2.ensures.kept fine in
      let (padded, tail) = (c.put_all.ensures.given note noted).grown joined in
      let (cut, spaced) = c.put.ensures.grown padded in
      let (had, stated) = c.push_statement.ensures.grown (c.cut_after.ensures.kept cut) in
      let (first, fielded) = c.push_fields.ensures.grown had in
      let field_size = ap length fielded ∙ length-append old fields in
      let note_size = ap length (noted (c.put_all.ensures.fine joined)) in
      let room_is : c.saturating_sub-room.result ≡ room = omega (arith, field_size, note_size) in
      let fitted : c.cut_after.new.line.bytes.items ≡ begun ++ shortened room standing =
      rw room_is at (c.cut_after.ensures.is begun standing c.len-fields.ensures cut stated) in
      let gap : c.saturating_sub-3.result ≡ room - length (shortened room standing) =
      omega (arith, ap length fitted, length-append begun (shortened room standing), room_is) in
      let texts = fields ∷ at_left room (shortened room standing) ∷ note ∷ [] in
      let all : c.put_all.new.self.bytes.items ≡ old ++ concat texts = rw (tail, spaced, gap, fitted, fielded) (simp regrouped) in
      (first, c.cut_after-2.ensures.is old (concat texts) c.len-start.ensures fine all);
}
