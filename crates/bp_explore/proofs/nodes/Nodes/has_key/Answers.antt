use Rattle.bp_explore.proofs.Common.{◌≡◌, ◌<◌, length, drop, ap, sym, ◌∙◌, arith, slice_get, length-drop, take_all, take_number, NodesOf, node_of, take_key, record_at}
use Rattle.std.proofs.lemmas.Slice.Eq.{bytes_eq-Decides}
use Rattle.bp_explore.proofs.PackedNodes.{nodes_get}
use Rattle.bp_explore.proofs.nodes.Nodes.has_key.Goals as goal

pub returns-then-place-record : goal.returns-then-place-record
returns-then-place-record c = λ yes.
    let x = c.self.inside in
    let at = c.args.at in
    let threads = length x.spare.stacks in
    let read = c.record_of-record.result.now in
    let place = c.read_number-level.new.at in
    let own = record_at x.cells.items x.ends.items at in
    let found : read ≡ own = c.record_of-record.ensures ∙ ap (λ l. record_at l c.as_slice-2.result.now at) c.as_slice.ensures.value ∙ ap (λ l. record_at x.cells.items l at) c.as_slice-2.ensures.value in
    let within : at < length x.ends.items = omega (arith, c.if-at-len.false, c.len.ensures, x.ends.ok.0) in
    let long = length-drop place read in
    let rest : (take_number own).1 ≡ c.args.key.now =
    ap (λ l. (take_number l).1) (sym found) ∙ sym c.read_number-level.ensures.rest
    ∙ sym (take_all _ (drop place read) (omega (arith, long))) ∙ (bytes_eq-Decides _ _).0 (sym c.eq.ensures ∙ yes) in (
      node_of threads own,
      ap (λ (m : NodesOf). slice_get m.items at) (sym c.self.view_is) ∙ nodes_get threads x.cells.items 0 x.ends.items at within,
      ap (λ l. (take_key threads l).0) rest ∙ ap (λ (m : NodesOf). (take_key (length m.spare.stacks) c.args.key.now).0) c.self.view_is,
    )
